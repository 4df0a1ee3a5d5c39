use Rattle.std.proofs.lemmas.Result.{err_from_is_err_and}
use Rattle.app_interface.proofs.Refusals.{other_ok}
use Rattle.app_token.specs.LawsOfText.{parts_of, two_slashes}
use Rattle.app_token.proofs.read.read_local.Goals as goal

pub returns-in_default-cut-clause-bad : goal.returns-in_default-cut-clause-bad
returns-in_default-cut-clause-bad c = λ _ local are e.
    let first = c.in-Some in
    two_slashes local are c.args.text.now first.hold.now first.lists.now e first.ensures.found first.ensures.first
    c.in_default-cut.ensures.none

pub returns-in_default-read_hold-clause-bad : goal.returns-in_default-read_hold-clause-bad
returns-in_default-read_hold-clause-bad c = λ _ local are e.
    let first = c.in-Some in
    let second = c.in-Some-cut in
    let parts =
    parts_of local are c.args.text.now first.hold.now first.lists.now e first.ensures.found first.ensures.first
    second.given.now second.taken.now second.ensures.found second.ensures.first in
    c.in_default-read_hold.ensures.only local.hold parts.first

pub returns-in_err-given-clause-bad : goal.returns-in_err-given-clause-bad
returns-in_err-given-clause-bad c =
    let first = c.in-Some in
    let second = c.in-Some-cut in
    let p = err_from_is_err_and c.from_residual.result c.from_residual.ensures.1 in
    rw (p.1, p.2)
    (λ bad local are e.
    let parts =
    parts_of local are c.args.text.now first.hold.now first.lists.now e first.ensures.found first.ensures.first
    second.given.now second.taken.now second.ensures.found second.ensures.first in
    c.in_err-given.ensures.bad (other_ok _ _ bad) local.given are.given parts.second)

pub returns-in_err-taken-clause-bad : goal.returns-in_err-taken-clause-bad
returns-in_err-taken-clause-bad c =
    let first = c.in-Some in
    let second = c.in-Some-cut in
    let p = err_from_is_err_and c.from_residual-in_err-taken.result c.from_residual-in_err-taken.ensures.1 in
    rw (p.1, p.2)
    (λ bad local are e.
    let parts =
    parts_of local are c.args.text.now first.hold.now first.lists.now e first.ensures.found first.ensures.first
    second.given.now second.taken.now second.ensures.found second.ensures.first in
    c.in_err-taken.ensures.bad (other_ok _ _ bad) local.taken are.taken parts.third)
