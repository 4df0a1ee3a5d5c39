use Rattle.std.proofs.Common.{refl}
use Rattle.topology.specs.declared.fault.TopoFault.TheVariants.{LinkIsThere, SelfLink, StrangeNode, TooManyLinks}
use Rattle.fault_inject.specs.declared.fault.Fault.TheVariants.{LinkUp}
use Rattle.fault_inject.proofs.InjectedFaults.{put_or_not, up_put, up_refused}
use Rattle.fault_inject.proofs.effects.link_up.Goals as goal

pub returns-in-Ok-clause-outcome : goal.returns-in-Ok-clause-outcome
returns-in-Ok-clause-outcome g c =
    let from_text = g.P.Application.from_text in
    let now = c.args.config.now in
    put_or_not g.P.Application.app from_text now (LinkUp c.args.a c.args.b) _ _ _ c.put_changed.ensures.ok
    c.put_changed.ensures.err
    (up_put g.P.Application.app from_text now c.args.a c.args.b _ _ _ c.topology.ensures c.in-Ok.ensures.sound c.in-Ok.ensures.ok)

pub returns-in-Err-StrangeNode-clause-outcome : goal.returns-in-Err-StrangeNode-clause-outcome
returns-in-Err-StrangeNode-clause-outcome g c =
    λ _. up_refused g.P.Application.app g.P.Application.from_text c.args.config.now c.args.a c.args.b _ (StrangeNode _) c.topology.ensures
    refl (rw c.in-Err-StrangeNode.field-0-is at c.in-Err-StrangeNode.ensures.err)

pub returns-in-Err-LinkIsThere-clause-outcome : goal.returns-in-Err-LinkIsThere-clause-outcome
returns-in-Err-LinkIsThere-clause-outcome g c =
    λ _. up_refused g.P.Application.app g.P.Application.from_text c.args.config.now c.args.a c.args.b _ LinkIsThere c.topology.ensures refl
    (rw c.in-Err-LinkIsThere.field-0-is at c.in-Err-LinkIsThere.ensures.err)

pub returns-in-Err-SelfLink-clause-outcome : goal.returns-in-Err-SelfLink-clause-outcome
returns-in-Err-SelfLink-clause-outcome g c =
    λ _. up_refused g.P.Application.app g.P.Application.from_text c.args.config.now c.args.a c.args.b _ (SelfLink _) c.topology.ensures refl
    (rw c.in-Err-SelfLink.field-0-is at c.in-Err-SelfLink.ensures.err)

pub returns-in-Err-TooManyLinks-clause-outcome : goal.returns-in-Err-TooManyLinks-clause-outcome
returns-in-Err-TooManyLinks-clause-outcome g c =
    λ _. up_refused g.P.Application.app g.P.Application.from_text c.args.config.now c.args.a c.args.b _ TooManyLinks c.topology.ensures refl
    (rw c.in-Err-TooManyLinks.field-0-is at c.in-Err-TooManyLinks.ensures.err)
