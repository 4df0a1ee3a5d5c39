use Rattle.std.proofs.Common.{Vec, Global, ℕ, ◌≡◌, ◌∙◌, ap, IfSome}
use Rattle.reset_machine.specs.Known.{IsKnown}
use Rattle.reset_machine.proofs.Locality.{known_none}
use Rattle.reset_machine.proofs.ReadyLists.{ready_nodes, ready_told}
use Rattle.reset_machine.proofs.config.Config.ready.Goals.{then-is_none+in_ok-new+in-Some-1}
use Rattle.reset_machine.proofs.config.Config.ready.Goals.{then-is_none+in_ok-new+in-None-1, else-is_none}
use Rattle.reset_machine.proofs.config.Config.ready.Goals as goal

pub settle_all-requires-after_bounds : goal.settle_all-requires-after_bounds
settle_all-requires-after_bounds g c = λ κs bounds.
    let app = g.P.Application.app in
    let i = c.self.inside in
    let all : IfSome c.if-is_none.self-inside.known (IsKnown app c.if-is_none.self-inside.nodes) =
    elim c.if-is_none.branch [
      | then-is_none+in_ok-new+in-Some-1 w ↦ rw w.self-inside-is
          (known_none app i.nodes w.in_ok-new.field-0
          (rw w.topology.ensures at (w.in_ok-new.ensures.count ∙ w.len.ensures)) w.in_ok-new.ensures.doubts)
      | then-is_none+in_ok-new+in-None-1 w ↦ rw w.self-inside-is
          (known_none app i.nodes w.in_ok-new.field-0
          (rw w.topology.ensures at (w.in_ok-new.ensures.count ∙ w.len.ensures)) w.in_ok-new.ensures.doubts)
      | else-is_none w ↦ rw w.self-inside-is c.self.invariant
    ] in
    rw c.in-Some.is at all

pub ready_ids-requires : goal.ready_ids-requires
ready_ids-requires g c =
    let kept : c.if-is_none.self-inside.nodes ≡ c.self.inside.nodes =
    elim c.if-is_none.branch [
      | then-is_none+in_ok-new+in-Some-1 w ↦ ap (λ i. i.nodes) w.self-inside-is
      | then-is_none+in_ok-new+in-None-1 w ↦ ap (λ i. i.nodes) w.self-inside-is
      | else-is_none w ↦ ap (λ i. i.nodes) w.self-inside-is
    ] in
    rw (c.ready.ensures, c.topology-2.ensures, kept)
    (ready_nodes g.P.Application.app c.self.inside.nodes c.settle_all.new.standing c.lemma_is_graph.ensures.graph
    c.lemma_is_standing.ensures (rw kept at c.settle_all.ensures.known))

pub returns-clause-ok : goal.returns-clause-ok
returns-clause-ok g c =
    let kept : c.if-is_none.self-inside.nodes ≡ c.self.inside.nodes =
    elim c.if-is_none.branch [
      | then-is_none+in_ok-new+in-Some-1 w ↦ ap (λ i. i.nodes) w.self-inside-is
      | then-is_none+in_ok-new+in-None-1 w ↦ ap (λ i. i.nodes) w.self-inside-is
      | else-is_none w ↦ ap (λ i. i.nodes) w.self-inside-is
    ] in
    let told = rw (c.ready.ensures, c.topology-2.ensures, kept) at c.ready_ids.ensures.same in
    rw (← c.self.view_is)
    (ready_told g.P.Application.app c.self.inside.nodes c.settle_all.new.standing c.lemma_is_graph.ensures.graph
    c.lemma_is_standing.ensures (rw kept at c.settle_all.ensures.known) c.in_ok-settle_all.ensures.settled
    (λ (v : Vec ℕ Global). v.items)
    c.ready_ids.result c.ready_ids.ensures.sorted told)
