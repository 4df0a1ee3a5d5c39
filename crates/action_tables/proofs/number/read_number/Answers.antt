use Rattle.std.proofs.Common.{true≢false, sym, ◌∙◌, length, rules, subst}
use Rattle.std.proofs.lemmas.Bool.{eq-eqb}
use Rattle.action_tables.proofs.LeadingDigits.{no_number, not_whole, whole_found}
use Rattle.action_tables.proofs.NumberWords.{IsEmptyOrPadded, decimal_plain}
use Rattle.action_tables.proofs.number.read_number.Goals as goal

pub returns-in_err-value-clause-only : goal.returns-in_err-value-clause-only
returns-in_err-value-clause-only c =
    rw c.from_residual.ensures (no_number c.args.word.now c.in_err-value.ensures.only)

pub returns-then-is_empty_or_padded-clause-only : goal.returns-then-is_empty_or_padded-clause-only
returns-then-is_empty_or_padded-clause-only c =
    λ n small is. decimal_plain n small
    (subst IsEmptyOrPadded is (c.is_empty_or_padded.ensures.0 c.if-is_empty_or_padded.true))

pub returns-then-not-is_empty-clause-only : goal.returns-then-not-is_empty-clause-only
returns-then-not-is_empty-clause-only c =
    not_whole c.args.word.now c.in_ok-value.value c.in_ok-value.rest.now c.in_ok-value.ensures.found
    (λ none. true≢false (sym (eq-eqb (length c.in_ok-value.rest.now) 0 none) ∙ sym c.if-not-is_empty.ensures))

pub returns-clause-found : goal.returns-clause-found
returns-clause-found c =
    whole_found c.args.word.now c.in_ok-value.value c.in_ok-value.rest.now c.in_ok-value.ensures.found
    (search rules) c.in_ok-value.ensures.small
    (λ padded. cc (c.if-is_empty_or_padded.false, c.is_empty_or_padded.ensures.1 padded))
