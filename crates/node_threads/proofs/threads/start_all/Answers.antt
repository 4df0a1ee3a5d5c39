use Rattle.std.proofs.Common.{◌∙◌, ◌∷◌, ◌++◌, [], ap, arith, length, true≢false}
use Rattle.std.proofs.lemmas.List.{length-append}
use Rattle.std.proofs.lemmas.List.Elements.{All-nil, All-same}
use Rattle.std.specs.Vec.Iter.{into_iter_items}
use Rattle.node_threads.specs.Seats.{nodes_of}
use Rattle.node_threads.specs.Threads.{promised}
use Rattle.node_threads.proofs.Promising.{HasTask, IsFresh, started_all, started_next, tasked_next}
use Rattle.node_threads.proofs.Promising.{tasked_without}
use Rattle.node_threads.proofs.threads.start_all.Goals.{in-Ok, in-Err}
use Rattle.node_threads.proofs.threads.start_all.Goals as goal

pub loop-seat-init : goal.loop-seat-init
loop-seat-init g c =
    let none = c.in_ok-threads.ensures.items in
    let gives = c.into_iter-seat-iterator.ensures.into_iter_gives in (
      λ fine. record {
        whole = ap (λ ts. promised ts ++ nodes_of (into_iter_items c.into_iter-seat-iterator.result)) none
            ∙ ap nodes_of gives.0;
        many = omega (arith, ap length none, gives.1, c.args.seats.ok.0);
      },
      omega (arith, ap length none, gives.1, c.args.seats.ok.0),
      omega (arith, c.in_ok-threads.ensures.capacity, c.len.ensures),
      record {
        tasks = All-same (HasTask c.args.task) _ [] none (All-nil (HasTask c.args.task));
        fresh = All-same IsFresh _ c.args.seats.items gives.0 c.requires.fresh;
      },
    )

pub loop-seat-preserved : goal.loop-seat-preserved
loop-seat-preserved g c =
    let l = c.loop-seat in
    let steps = c.in-Some.ensures.steps in
    elim c.match-spawn_with.branch [
      | in-Ok w ↦ rw (w.threads-is, w.refused-is) (
        (λ fine. started_next l.threads.items c.args.seats.items _ w.in-Ok.thread c.in-Some.seat _ _ _ _ steps.0 steps.1
            w.push_reserved.ensures.items (ap (λ p. p.node) w.in-Ok.ensures.ok ∙ c.node-node.ensures)
            (l.invariant.0 fine)),
        omega (
          arith,
          ap length w.push_reserved.ensures.items,
          length-append l.threads.items (w.in-Ok.thread ∷ []),
          steps.1,
          l.invariant.1,
        ),
        omega (arith, w.push_reserved.ensures.capacity, l.invariant.2),
        tasked_next c.args.task l.threads.items _ w.in-Ok.thread c.in-Some.seat _ _ steps.0 w.push_reserved.ensures.items
            (ap (λ p. p.task) w.in-Ok.ensures.ok) l.invariant.3,
      )
      | in-Err w ↦ rw (w.threads-is, w.refused-is) (
        (λ bad. absurd (true≢false bad)),
        omega (arith, steps.1, l.invariant.1),
        l.invariant.2,
        tasked_without c.args.task l.threads.items c.in-Some.seat _ _ steps.0 l.invariant.3,
      )
    ]

pub loop-seat-preserved-after-spawn_with-2 : goal.loop-seat-preserved-after-spawn_with-2
loop-seat-preserved-after-spawn_with-2 g c =
    let l = c.loop-seat in
    let steps = c.in-Some.ensures.steps in
    elim c.match-spawn_with.branch [
      | in-Ok w ↦ rw (w.threads-is, w.refused-is) (
        (λ fine. started_next l.threads.items c.args.seats.items _ w.in-Ok.thread c.in-Some.seat _ _ _ _ steps.0 steps.1
            w.push_reserved.ensures.items (ap (λ p. p.node) w.in-Ok.ensures.ok ∙ c.node-node.ensures)
            (l.invariant.0 fine)),
        omega (
          arith,
          ap length w.push_reserved.ensures.items,
          length-append l.threads.items (w.in-Ok.thread ∷ []),
          steps.1,
          l.invariant.1,
        ),
        omega (arith, w.push_reserved.ensures.capacity, l.invariant.2),
        tasked_next c.args.task l.threads.items _ w.in-Ok.thread c.in-Some.seat _ _ steps.0 w.push_reserved.ensures.items
            (ap (λ p. p.task) w.in-Ok.ensures.ok) l.invariant.3,
      )
      | in-Err w ↦ rw (w.threads-is, w.refused-is) (
        (λ bad. absurd (true≢false bad)),
        omega (arith, steps.1, l.invariant.1),
        l.invariant.2,
        tasked_without c.args.task l.threads.items c.in-Some.seat _ _ steps.0 l.invariant.3,
      )
    ]

pub returns-clause-all : goal.returns-clause-all
returns-clause-all g c = λ fine.
    started_all c.loop-seat.threads.items c.args.seats.items _ _ c.in-None.ensures.steps.0 (c.loop-seat.invariant.0 fine)
