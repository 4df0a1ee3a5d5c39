use Rattle.std.proofs.Common.{◌-◌, sym, arith, ◌∙◌, true≢false}
use Rattle.reset_machine.proofs.Standings.{doubt_again, doubt_idle, doubt_ready, node_found, standing}
use Rattle.reset_machine.proofs.ready_set.ReadySet.doubt.Goals as goal

pub unreachable-requires : goal.unreachable-requires
unreachable-requires c =
    let low = rw (← c.self.view_is) at c.requires in
    let i = c.self.inside in
    true≢false (sym (node_found (standing i.nodes.keys i.ready i.idle) c.args.node c.self.invariant.0 low)
    ∙ sym c.in_default.ensures.found)

pub invariant_of-self : goal.invariant_of-self
invariant_of-self c =
    let low = rw (← c.self.view_is) at c.requires in
    let i = c.self.inside in
    (doubt_ready (standing i.nodes.keys i.ready i.idle) i.marks.items c.in-Some.place c.args.node c.self.invariant low
    (sym c.in-Some.ensures.index) (i.ready - 1) _ c.if-place-self.true (omega (arith, c.if-place-self.true))
    c.swap_indices.ensures.keys).1

pub invariant_of-self-then-self-place : goal.invariant_of-self-then-self-place
invariant_of-self-then-self-place c =
    let low = rw (← c.self.view_is) at c.requires in
    let i = c.self.inside in
    (doubt_idle (standing i.nodes.keys i.ready i.idle) i.marks.items c.in-Some.place c.args.node c.self.invariant low
    (sym c.in-Some.ensures.index) _ c.if-self-place.true c.swap_indices-then-self-place.ensures.keys).1

pub invariant_of-self-else-self-place : goal.invariant_of-self-else-self-place
invariant_of-self-else-self-place c =
    let low = rw (← c.self.view_is) at c.requires in
    let i = c.self.inside in
    (doubt_again (standing i.nodes.keys i.ready i.idle) i.marks.items c.in-Some.place c.args.node c.self.invariant low
    (sym c.in-Some.ensures.index) c.if-place-self.false c.if-self-place.false).1

pub returns-then-place-self : goal.returns-then-place-self
returns-then-place-self c =
    let low = rw (← c.self.view_is) at c.requires in
    let i = c.self.inside in
    rw (← c.self.view_is)
    (doubt_ready (standing i.nodes.keys i.ready i.idle) i.marks.items c.in-Some.place c.args.node c.self.invariant low
    (sym c.in-Some.ensures.index) (i.ready - 1) _ c.if-place-self.true (omega (arith, c.if-place-self.true))
    c.swap_indices.ensures.keys).0

pub returns-then-self-place : goal.returns-then-self-place
returns-then-self-place c =
    let low = rw (← c.self.view_is) at c.requires in
    let i = c.self.inside in
    rw (← c.self.view_is)
    (doubt_idle (standing i.nodes.keys i.ready i.idle) i.marks.items c.in-Some.place c.args.node c.self.invariant low
    (sym c.in-Some.ensures.index) _ c.if-self-place.true c.swap_indices-then-self-place.ensures.keys).0

pub returns-else-self-place : goal.returns-else-self-place
returns-else-self-place c =
    let low = rw (← c.self.view_is) at c.requires in
    let i = c.self.inside in
    rw (← c.self.view_is)
    (doubt_again (standing i.nodes.keys i.ready i.idle) i.marks.items c.in-Some.place c.args.node c.self.invariant low
    (sym c.in-Some.ensures.index) c.if-place-self.false c.if-self-place.false).0
