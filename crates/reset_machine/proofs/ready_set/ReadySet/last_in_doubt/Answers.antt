use Rattle.std.proofs.Common.{◌-◌, refl, arith}
use Rattle.reset_machine.proofs.Standings.{node_below, standing}
use Rattle.reset_machine.proofs.ready_set.ReadySet.last_in_doubt.Goals as goal

pub returns-clause-last : goal.returns-clause-last
returns-clause-last c =
    let i = c.self.inside in
    let h = c.self.invariant.0 in
    rw (c.as_slice.ensures.keys, ← c.self.view_is) (
      refl,
      node_below (standing i.nodes.keys i.ready i.idle) h (i.idle - 1)
          (omega (arith, h.parts, h.within, c.if-self.false)),
    )
