use Rattle.std.proofs.Common.{refl}
use Rattle.topology.specs.declared.fault.TopoFault.TheVariants.{NoSuchLink, StrangeNode}
use Rattle.fault_inject.specs.declared.fault.Fault.TheVariants.{LinkDown}
use Rattle.fault_inject.proofs.InjectedFaults.{down_put, down_refused, put_or_not}
use Rattle.fault_inject.proofs.effects.link_down.Goals as goal

pub returns-in-Ok-clause-outcome : goal.returns-in-Ok-clause-outcome
returns-in-Ok-clause-outcome g c =
    let from_text = g.P.Application.from_text in
    let now = c.args.config.now in
    put_or_not g.P.Application.app from_text now (LinkDown c.args.a c.args.b) _ _ _ c.put_changed.ensures.ok
    c.put_changed.ensures.err
    (down_put g.P.Application.app from_text now c.args.a c.args.b _ _ _ c.topology.ensures c.in-Ok.ensures.sound c.in-Ok.ensures.ok)

pub returns-in-Err-StrangeNode-clause-outcome : goal.returns-in-Err-StrangeNode-clause-outcome
returns-in-Err-StrangeNode-clause-outcome g c =
    λ _. down_refused g.P.Application.app g.P.Application.from_text c.args.config.now c.args.a c.args.b _ (StrangeNode _) c.topology.ensures
    refl (rw c.in-Err-StrangeNode.field-0-is at c.in-Err-StrangeNode.ensures.err)

pub returns-in-Err-NoSuchLink-clause-outcome : goal.returns-in-Err-NoSuchLink-clause-outcome
returns-in-Err-NoSuchLink-clause-outcome g c =
    λ _. down_refused g.P.Application.app g.P.Application.from_text c.args.config.now c.args.a c.args.b _ NoSuchLink c.topology.ensures refl
    (rw c.in-Err-NoSuchLink.field-0-is at c.in-Err-NoSuchLink.ensures.err)
