use Rattle.std.proofs.Common.{◌≡◌, ◌+◌, ◌++◌, ◌<◌, ◌∷◌, [], ap, arith, length, map, subst, ◌∙◌}
use Rattle.std.specs.List.Sorted.{IsStrictlyIncreasing}
use Rattle.std.proofs.lemmas.List.{length-append}
use Rattle.reset_model.specs.Configuration.{Configuration}
use Rattle.node_threads.specs.Closed.{AreSeatLists, list_of}
use Rattle.node_threads.specs.Seats.{SeatView}
use Rattle.node_threads.proofs.Collecting.{closes, collected_all, collected_first, collected_next, left_over}
use Rattle.node_threads.proofs.closing.outcome_of_seats.Goals as goal

pub loop-seat-init : goal.loop-seat-init
loop-seat-init g c =
    let none = c.requires.room.0 in
    let gives = c.into_iter-seat-iterator.ensures.into_iter_gives in (
      collected_first _ _ _ _ _ c.requires.last.0 c.requires.last.1 none gives.0,
      omega (arith, c.requires.last.0, c.lemma_one_more.ensures),
      omega (arith, gives.1, ap length none, c.args.seats.ok.0),
      c.requires.room.1,
    )

pub loop-seat-preserved : goal.loop-seat-preserved
loop-seat-preserved g c =
    let l = c.loop-seat in
    let steps = c.in-Some.ensures.steps in
    let put = c.push_reserved.ensures.items ∙ ap (λ (s : SeatView). l.lists.items ++ list_of s ∷ []) c.seat.view_is in (
      collected_next _ _ _ _ l.lists.items _ c.in-Some.seat _ _ c.args.seats.items steps.0 put (c.merge.ensures.parts
          ∙ ap (λ k. l.all.parts + k) c.seat.invariant.0) (c.merge.ensures.amount
          ∙ ap (λ k. l.all.amount + k) (c.seat.invariant.1 ∙ ap (λ (s : SeatView). length s.receipts) c.seat.view_is))
          l.invariant.0,
      c.merge.ensures.apart,
      omega (arith, ap length put, length-append l.lists.items (list_of c.in-Some.seat ∷ []), steps.1, l.invariant.2),
      omega (arith, c.push_reserved.ensures.capacity, l.invariant.3),
    )

pub push_reserved-requires : goal.push_reserved-requires
push_reserved-requires g c =
    let l = c.loop-seat in
    let steps = c.in-Some.ensures.steps in
    let short : length l.lists.items < length c.args.seats.items = left_over l.lists.items c.in-Some.seat _
    c.args.seats.items (subst (λ xs. l.lists.items ++ map list_of xs ≡ map list_of c.args.seats.items) steps.0
    l.invariant.0.whole) in
    omega (arith, short, l.lists.ok.0, l.invariant.3)

pub returns-clause-closed : goal.returns-clause-closed
returns-clause-closed g c =
    let app = g.P.Application.app in
    let from_text = g.P.Application.from_text in
    let l = c.loop-seat in
    let b = c.args.locked.book in
    let seats = c.args.seats.items in
    let same : length l.lists.items ≡ length seats = omega (arith, c.in-None.ensures.steps.0, l.invariant.2) in
    closes app from_text g.L.Sharing.book b g.L.Round.nodes c.args.locked.tally.total l.all.parts l.all.amount
    g.L.Ledger.parts seats l.lists.items c.lemma_is_locked.ensures.continued c.lemma_is_locked.ensures.nodes
    c.lemma_is_locked.ensures.counted
    (subst (λ (k : Configuration g.row.P-Local.Denot). IsStrictlyIncreasing k.graph.nodes) c.config.ensures
    c.lemma_is_graph.ensures.graph.rising)
    (subst (λ m. AreSeatLists app from_text b m (map list_of seats)) c.lemma_is_locked.ensures.mark c.requires.seats)
    (collected_all _ _ _ _ _ same l.invariant.0) l.invariant.0.has_parts l.invariant.0.counts l.invariant.1
    c.lemma_one_more.ensures c.audit.ensures.whole

pub returns-clause-lists : goal.returns-clause-lists
returns-clause-lists g c =
    let l = c.loop-seat in
    let same : length l.lists.items ≡ length c.args.seats.items = omega (
      arith,
      c.in-None.ensures.steps.0,
      l.invariant.2,
    ) in
    collected_all _ _ _ _ _ same l.invariant.0
