use Rattle.std.proofs.Common.{refl}
use Rattle.topology.specs.declared.fault.TopoFault.TheVariants.{StrangeNode}
use Rattle.fault_inject.specs.declared.fault.Fault.TheVariants.{NodeDown}
use Rattle.fault_inject.proofs.InjectedFaults.{off_put, off_refused, put_or_not}
use Rattle.fault_inject.proofs.effects.node_down.Goals as goal

pub returns-in-Ok-clause-outcome : goal.returns-in-Ok-clause-outcome
returns-in-Ok-clause-outcome g c =
    let app = g.P.Application.app in
    let from_text = g.P.Application.from_text in
    let now = c.args.config.now in
    put_or_not app from_text now (NodeDown c.args.at) _ _ _ c.put_changed.ensures.ok c.put_changed.ensures.err
    (off_put app from_text now c.args.at _ _ _ c.topology.ensures c.in-Ok.ensures.sound c.in-Ok.ensures.ok)

pub returns-in-Err-StrangeNode-clause-outcome : goal.returns-in-Err-StrangeNode-clause-outcome
returns-in-Err-StrangeNode-clause-outcome g c =
    λ _. off_refused g.P.Application.app g.P.Application.from_text c.args.config.now c.args.at _ (StrangeNode _)
    c.topology.ensures refl (rw c.in-Err-StrangeNode.field-0-is at c.in-Err-StrangeNode.ensures.err)
