use Rattle.std.specs.Prelude.{codes}
use Rattle.fault_inject.proofs.FaultLines.{no_on, number_found}
use Rattle.fault_inject.proofs.text.node_up.Goals as goal

pub returns-in_err-at : goal.returns-in_err-at
returns-in_err-at c = rw c.from_residual.ensures (no_on c.args.text.now c.in_err-at.ensures.only)

pub returns : goal.returns
returns c = (
  c.in_ok-at.ensures.small,
  number_found c.args.text.now (codes "on") c.in_ok-at.at c.in_ok-at.ensures.found c.in_ok-at.ensures.small,
)
