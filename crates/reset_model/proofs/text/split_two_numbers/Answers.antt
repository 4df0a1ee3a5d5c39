use Rattle.std.specs.Fmt.{decimal}
use Rattle.reset_model.proofs.EventCuts.{none_second}
use Rattle.reset_model.proofs.WordLines.{IsWord-decimal}
use Rattle.reset_model.proofs.text.split_two_numbers.Goals as goal

pub returns-in_err-second-clause-only : goal.returns-in_err-second-clause-only
returns-in_err-second-clause-only c =
    rw c.from_residual-in_err-second.ensures
    (none_second c.args.text.now (decimal c.in_ok-first.first) c.in_ok-first.rest.now c.in_ok-first.ensures.found
    (IsWord-decimal c.in_ok-first.first c.in_ok-first.ensures.small) c.in_err-second.ensures.only)
