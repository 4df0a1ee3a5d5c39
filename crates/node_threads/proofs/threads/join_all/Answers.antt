use Rattle.std.proofs.Common.{◌∷◌, ◌≤◌, [], ap, arith, length}
use Rattle.std.proofs.lemmas.List.{length-append}
use Rattle.std.proofs.lemmas.List.Elements.{All-map}
use Rattle.node_threads.specs.Closed.{list_of}
use Rattle.node_threads.specs.Requests.{request_count, requests_at}
use Rattle.node_threads.proofs.Promising.{joined_next, joined_whole}
use Rattle.node_threads.proofs.threads.join_all.Goals as goal

pub loop-thread-preserved-then-eq : goal.loop-thread-preserved-then-eq
loop-thread-preserved-then-eq g c =
    let l = c.loop-thread in
    let steps = c.in-Some.ensures.steps in
    let put = c.push_reserved.ensures.items in
    let kept = c.join-seat.ensures in (
      joined_whole c.args.task l.seats.items _ c.join-seat.result.0 c.in-Some.thread _ _ c.args.started.threads.items
          steps.0 put kept.0 l.invariant.0,
      omega (arith, ap length put, length-append l.seats.items (c.join-seat.result.0 ∷ []), steps.1, l.invariant.1),
      omega (arith, c.push_reserved.ensures.capacity, l.invariant.2),
      joined_next c.args.task l.seats.items _ c.join-seat.result.0 c.in-Some.thread _ _ steps.0 put kept.0 kept.1
          l.invariant.3,
    )

pub loop-thread-preserved : goal.loop-thread-preserved
loop-thread-preserved g c =
    let l = c.loop-thread in
    let steps = c.in-Some.ensures.steps in
    let put = c.push_reserved.ensures.items in
    let kept = c.join-seat.ensures in (
      joined_whole c.args.task l.seats.items _ c.join-seat.result.0 c.in-Some.thread _ _ c.args.started.threads.items
          steps.0 put kept.0 l.invariant.0,
      omega (arith, ap length put, length-append l.seats.items (c.join-seat.result.0 ∷ []), steps.1, l.invariant.1),
      omega (arith, c.push_reserved.ensures.capacity, l.invariant.2),
      joined_next c.args.task l.seats.items _ c.join-seat.result.0 c.in-Some.thread _ _ steps.0 put kept.0 kept.1
          l.invariant.3,
    )

pub returns-clause-asked : goal.returns-clause-asked
returns-clause-asked g c =
    All-map (λ l. request_count l.1 ≤ requests_at c.args.task l.0) list_of c.loop-thread.seats.items
    c.loop-thread.invariant.3.asked
