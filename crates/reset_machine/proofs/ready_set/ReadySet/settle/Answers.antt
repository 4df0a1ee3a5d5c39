use Rattle.std.proofs.Common.{◌-◌, arith}
use Rattle.reset_machine.proofs.Standings.{last_marked, settle_ready, standing}
use Rattle.reset_machine.proofs.ready_set.ReadySet.settle.Goals as goal

pub index_mut-requires : goal.index_mut-requires
index_mut-requires c =
    let some = rw (← c.self.view_is) at c.requires in
    let i = c.self.inside in
    let low = last_marked (standing i.nodes.keys i.ready i.idle) i.marks.items (i.idle - 1) c.self.invariant
    (omega (arith, some)) (omega (arith, some)) in
    rw c.as_slice.ensures.keys (omega (arith, low, i.marks.ok))

pub invariant_of-self : goal.invariant_of-self
invariant_of-self c =
    let some = rw (← c.self.view_is) at c.requires in
    let i = c.self.inside in
    rw c.as_slice.ensures.keys
    (settle_ready (standing i.nodes.keys i.ready i.idle) i.marks.items (i.idle - 1) c.self.invariant
    (omega (arith, some)) (omega (arith, some)) _ c.swap_indices.ensures.keys).1
