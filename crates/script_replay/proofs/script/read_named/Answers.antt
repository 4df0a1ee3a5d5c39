use Rattle.std.specs.Prelude.{codes}
use Rattle.std.proofs.Common.{◌≡◌, ◌≢◌, true, rules, sym, ◌∙◌, true≢false}
use Rattle.script_replay.specs.Script.{is_name}
use Rattle.script_replay.proofs.CaseNames.{end_not_named, three_found, three_only, two_not_named}
use Rattle.script_replay.proofs.script.read_named.Goals.{else-eq-via-then-eq+else-is_name, else-eq-via-else-eq}
use Rattle.script_replay.proofs.script.read_named.Goals as goal

pub returns-in_err-at-clause-only : goal.returns-in_err-at-clause-only
returns-in_err-at-clause-only g c =
    rw c.from_residual-in_err-at.ensures
    (two_not_named c.args.line.now c.in_ok-command.command.now c.in_ok-command.rest.now c.in_ok-command.ensures.found
    c.in_err-at.ensures.only)

pub returns-in_err-word-clause-only : goal.returns-in_err-word-clause-only
returns-in_err-word-clause-only g c =
    rw c.from_residual-in_err-word.ensures
    (end_not_named c.args.line.now c.in_ok-command.command.now c.in_ok-command.rest.now c.in_ok-at.at.now
    c.in_ok-at.rest.now c.in_ok-command.ensures.found c.in_ok-at.ensures.found c.in_err-word.ensures.only)

pub returns-in_err-read_number-clause-only : goal.returns-in_err-read_number-clause-only
returns-in_err-read_number-clause-only g c =
    rw c.from_residual-in_err-read_number.ensures
    (three_only c.args.line.now c.in_ok-command.command.now c.in_ok-command.rest.now c.in_ok-at.at.now
    c.in_ok-at.rest.now c.in_ok-word.word.now c.in_ok-word.with
    c.in_ok-command.ensures.found c.in_ok-at.ensures.found c.in_ok-word.ensures.found
    (λ m small act number name. c.in_err-read_number.ensures.only m small number))

pub returns-in_ok-read_number-clause-found : goal.returns-in_ok-read_number-clause-found
returns-in_ok-read_number-clause-found g c =
    let act : c.in_ok-command.command.now ≡ codes "act" = search rules in
    let name : is_name c.in_ok-word.word.now ≡ true = sym c.is_name.ensures ∙ c.if-is_name.true in
    three_found g.P.Application.names c.args.line.now c.in_ok-command.command.now c.in_ok-command.rest.now
    c.in_ok-at.at.now c.in_ok-at.rest.now c.in_ok-word.word.now c.in_ok-word.with
    c.in_ok-read_number.field-0 c.case_called.result c.in_ok-command.ensures.found c.in_ok-at.ensures.found
    c.in_ok-word.ensures.found c.in_ok-word.ensures.fits act
    c.in_ok-read_number.ensures.found c.in_ok-read_number.ensures.small name c.case_called.ensures

pub returns-else-eq-clause-only : goal.returns-else-eq-clause-only
returns-else-eq-clause-only g c =
    three_only c.args.line.now c.in_ok-command.command.now c.in_ok-command.rest.now c.in_ok-at.at.now
    c.in_ok-at.rest.now c.in_ok-word.word.now c.in_ok-word.with
    c.in_ok-command.ensures.found c.in_ok-at.ensures.found c.in_ok-word.ensures.found
    (λ m small act number name. elim c.else-eq.branch [
      | else-eq-via-then-eq+else-is_name w ↦ true≢false (sym name ∙ sym w.is_name.ensures ∙ w.if-is_name.false)
      | else-eq-via-else-eq w ↦ let other : c.in_ok-command.command.now ≢ codes "act" = search rules in other act
    ])
