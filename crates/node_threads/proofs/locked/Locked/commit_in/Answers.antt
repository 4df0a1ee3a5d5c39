use Rattle.std.proofs.Common.{◌≤◌, ◌∷◌, [], length, ap, ◌∙◌, arith, rules}
use Rattle.std.proofs.lemmas.List.{length-append}
use Rattle.history.specs.declared.entry.Entry.TheVariants.{Step}
use Rattle.node_threads.proofs.Entering.{before_more, booked_entered, booked_graph, steps_more}
use Rattle.node_threads.proofs.locked.Locked.commit_in.Goals.{in-Ok-carry_out, in-Err-carry_out}
use Rattle.node_threads.proofs.locked.Locked.commit_in.Goals as goal

pub invariant_of-self-clause-nodes : goal.invariant_of-self-clause-nodes
invariant_of-self-clause-nodes g c =
    let l = c.args.self.now in
    ap (λ k. k.nodes) (booked_graph g.P.Application.app l.book c.args.plan.event c.carry_out.new.self
    c.in-Ok-carry_out.receipt
    c.in-Ok-carry_out.ensures.ok.0) ∙ l.nodes

pub invariant_of-self-clause-counted : goal.invariant_of-self-clause-counted
invariant_of-self-clause-counted g c =
    let l = c.args.self.now in
    let entered = booked_entered g.P.Application.app l.book c.args.plan.event c.carry_out.new.self c.in-Ok-carry_out.receipt
    c.in-Ok-carry_out.ensures.ok.0 in
    rw entered.entries (omega (
      arith,
      l.counted,
      c.add.ensures.total,
      length-append l.book.entries (Step c.args.plan.event ∷ []),
    ))

pub invariant_of-self-clause-steps : goal.invariant_of-self-clause-steps
invariant_of-self-clause-steps g c =
    let l = c.args.self.now in
    let within : l.mark ≤ length l.book.entries = omega (arith, l.counted) in
    let entered = booked_entered g.P.Application.app l.book c.args.plan.event c.carry_out.new.self c.in-Ok-carry_out.receipt
    c.in-Ok-carry_out.ensures.ok.0 in
    rw entered.entries (steps_more l.mark l.book.entries c.args.plan.event within l.steps)

pub invariant_of-self-clause-before : goal.invariant_of-self-clause-before
invariant_of-self-clause-before g c =
    let l = c.args.self.now in
    let within : l.mark ≤ length l.book.entries = omega (arith, l.counted) in
    let entered = booked_entered g.P.Application.app l.book c.args.plan.event c.carry_out.new.self c.in-Ok-carry_out.receipt
    c.in-Ok-carry_out.ensures.ok.0 in
    rw entered.entries (before_more l.mark l.book.entries g.L.Sharing.book.entries c.args.plan.event within l.before)

pub invariant_of-self-clause-opening : goal.invariant_of-self-clause-opening
invariant_of-self-clause-opening g c =
    let l = c.args.self.now in
    let entered = booked_entered g.P.Application.app l.book c.args.plan.event c.carry_out.new.self c.in-Ok-carry_out.receipt
    c.in-Ok-carry_out.ensures.ok.0 in
    entered.opening ∙ l.opening

pub invariant_of-self-clause-limit : goal.invariant_of-self-clause-limit
invariant_of-self-clause-limit g c =
    let l = c.args.self.now in
    let entered = booked_entered g.P.Application.app l.book c.args.plan.event c.carry_out.new.self c.in-Ok-carry_out.receipt
    c.in-Ok-carry_out.ensures.ok.0 in
    entered.limit ∙ l.limit

pub invariant_of-seat-2 : goal.invariant_of-seat-2
invariant_of-seat-2 g c =
    let node = c.seat.invariant.2 in
    elim c.match-carry_out.branch [
      | in-Ok-carry_out w ↦ rw w.seat-inside-is (search rules, search rules, node)
      | in-Err-carry_out w ↦ rw w.seat-inside-is (search rules, search rules, node)
    ]
