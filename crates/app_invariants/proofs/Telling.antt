-- A verdict finds nothing wrong exactly where the invariant holds of the abstract states.
use Rattle.std.proofs.Common.{◌≡◌, ◌↔◌, ℕ, ◌<◌, ◌≤◌, ◌==◌, Bool, true, false, cond, List, [], Option, Some, None, length, refl, sym, ap}
use Rattle.std.proofs.Common.{eqb-true, eq-eqb, arith}
use Rattle.app_interface.specs.Application.{App}
use Rattle.app_interface.specs.Invariant.{Keeps}
use Rattle.topology.specs.Components.{IsComponent, component}
use Rattle.topology.specs.Graph.{Graph, IsConnected, IsGraph, IsNode}
use Rattle.topology.proofs.Components.{component_is, reached_node}
use Rattle.topology.proofs.Membership.{has-Contains}
use Rattle.reset_model.specs.Configuration.{Configuration}
use Rattle.reset_model.specs.Refinement.{abstract_of}
use Rattle.reset_model.specs.SoundSteps.{HoldsAt}
use Rattle.app_invariants.specs.Verdicts.{Count, newest_of, verdict_of, wrong_of}

module _ {L : Type 0} (app : App L) (Inv : Graph → (ℕ → L) → Type 0) (count : Count L)
    (keeps : (g : Graph) (bound : ℕ) → IsGraph g → IsConnected g → 0 < length g.nodes → length g.ids ≤ bound
    → Keeps app g bound (Inv g))
    (decides : (g : Graph) (v : ℕ → L) → IsGraph g → ((count.number g v ≡ count.right) ↔ Inv g v)) where
  -- nothing is wrong exactly where the number is right
  none_told : (n right : ℕ) (words : List ℕ)
      → (cond {A = Option (List ℕ × ℕ)} (n == right) None (Some (words, n)) ≡ None) ↔ (n ≡ right)
  none_told n right words = (
    λ none. at (n == right) refl none,
    λ same. ap (λ b. cond {A = Option (List ℕ × ℕ)} b None (Some (words, n))) (eq-eqb n right same),
  )
    where
      at : (b : Bool) → (n == right) ≡ b → cond {A = Option (List ℕ × ℕ)} b None (Some (words, n)) ≡ None → n ≡ right
      at true is none = eqb-true n right is
      at false is none = absurd (cc)

  pub violation_tells : (g : Graph) (v : ℕ → L) → IsGraph g → (wrong_of count g v ≡ None ↔ Inv g v)
  violation_tells g v graph =
      let told = none_told (count.number g v) count.right count.words in
      let means = decides g v graph in (λ none. means.0 (told.0 none), λ inv. told.1 (means.1 inv))

  module _ (c : Configuration L) (i : ℕ) (graph : IsGraph c.graph) (node : IsNode c.graph i) where
    part : IsComponent c.graph i (component c.graph i)
    part = component_is c.graph i graph node

    kept : Keeps app (component c.graph i) (length (component c.graph i).ids) (Inv (component c.graph i))
    kept =
        keeps (component c.graph i) (length (component c.graph i).ids) part.as_graph part.connected some (omega arith)
      where
        some : 0 < length (component c.graph i).nodes
        some = let there = (part.same_nodes i).1 ([], refl) in omega (arith, there.1)

    same : (j : ℕ) → IsNode (component c.graph i) j → newest_of app c j ≡ abstract_of app c j
    same j inside =
        let there : IsNode c.graph j = reached_node c.graph i j graph node ((part.same_nodes j).0 inside) in
        ap (λ b. cond b (abstract_of app c j) (app.start c.graph j)) (has-Contains c.graph.nodes j there)

    pub verdict_tells : (verdict_of count app c i).1 ≡ None ↔ HoldsAt app Inv c i
    verdict_tells =
        let g = component c.graph i in
        let tells = violation_tells g (newest_of app c) part.as_graph in (
          λ none. kept.same (newest_of app c) (abstract_of app c) (λ j inside. sym (same j inside))
              (tells.0 none),
          λ inv. tells.1 (kept.same (abstract_of app c) (newest_of app c) same inv),
        )
