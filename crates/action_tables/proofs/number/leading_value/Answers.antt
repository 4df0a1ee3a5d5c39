use Rattle.std.proofs.lemmas.Option.{IfSome_then}
use Rattle.action_tables.proofs.LeadingDigits.{none_without_zero, zero_found}
use Rattle.action_tables.proofs.number.leading_value.Goals as goal

pub returns-clause-found : goal.returns-clause-found
returns-clause-found c =
    IfSome_then c.value_from.result c.value_from.ensures.found (λ r. zero_found c.args.text.now r.1.now r.0)

pub returns-clause-only : goal.returns-clause-only
returns-clause-only c =
    none_without_zero c.value_from.result c.args.text.now c.value_from.ensures.only
