-- What an abstract step is to one component of the graph.
use Rattle.std.proofs.Common.{◌≡◌, ℕ, Bool, true, false, cond, List, [], ◌∷◌, Option, Some, None}
use Rattle.std.proofs.Common.{refl, sym, ap, ap₂, ◌∙◌, ◌⊎◌, inl, inr, subst, ⊎_elim, true≢false}
use Rattle.std.proofs.lemmas.Bool.{cases_Bool}
use Rattle.std.specs.Cmp.{both_ways as same_tests}
use Rattle.app_interface.specs.Application.{App, Action, Fits, is_read, seen}
use Rattle.app_interface.specs.Invariant.{SameAtNodes, StartsByComponent}
use Rattle.app_interface.specs.declared.reads.Reads.{Reads}
use Rattle.app_interface.specs.declared.reads.Reads.TheVariants.{Alone, Toward, One, All}
use Rattle.topology.specs.Components.{component, IsComponent, reaches}
use Rattle.topology.specs.Graph.{Graph, IsGraph, IsNode, IsReached, are_linked}
use Rattle.topology.proofs.Components.{component_is, reached_from_test, reached_node, reached_on}
use Rattle.topology.proofs.Components.{reaches_tests}
use Rattle.topology.proofs.Walks.{reached_back}
use Rattle.reset_model.specs.Refinement.{reset_of}

-- what is seen hangs on the answers of the test alone
seen_by_test : {L : Type 0} (p q : ℕ → Bool) (v : ℕ → L) (js : List ℕ) → ((j : ℕ) → p j ≡ q j)
    → seen p v js ≡ seen q v js
seen_by_test p q v [] same = refl
seen_by_test p q v (j ∷ js) same =
    ap₂ (λ b xs. cond b ((j, v j) ∷ xs) xs) (same j) (seen_by_test p q v js same)

module _ (g : Graph) (graph : IsGraph g) (i : ℕ) (node : IsNode g i) where
  part : IsComponent g i (component g i)
  part = component_is g i graph node

  pub reached_or_not : (j : ℕ) → IsReached g i j ⊎ (IsReached g i j → ⊥)
  reached_or_not j =
      ⊎_elim
      (λ yes. inl ((reaches_tests g i j graph node).0 yes))
      (λ never. inr (λ r. true≢false (sym ((reaches_tests g i j graph node).1 r) ∙ never)))
      (cases_Bool (reaches g i j))

  -- a node of the component is one of the graph
  node_there : (j : ℕ) → IsNode (component g i) j → IsNode g j
  node_there j at = reached_node g i j graph node ((part.same_nodes j).0 at)

  module _ {L : Type 0} (v v' : ℕ → L) where
    pub same_there : SameAtNodes g v v' → SameAtNodes (component g i) v v'
    same_there same j at = same j (node_there j at)

  module _ (k j : ℕ) (inside : IsReached g i k) where
    linked_there : are_linked g k j ≡ are_linked (component g i) k j
    linked_there =
        same_tests _ _ (λ linked. (part.same_links k j).1 (inside, linked)) (λ linked. ((part.same_links k j).0 linked).1)

  read_there : (k : ℕ) → IsReached g i k → (reads : Option Reads) (with : Option ℕ) (j : ℕ)
      → is_read g k reads with j ≡ is_read (component g i) k reads with j
  read_there k inside None with j = refl
  read_there k inside (Some Alone) with j = refl
  read_there k inside (Some Toward) with j = refl
  read_there k inside (Some One) None j = refl
  read_there k inside (Some One) (Some n) j = refl
  read_there k inside (Some All) with j = linked_there k j inside

  fits_there : (k : ℕ) → IsReached g i k → (reads : Option Reads) (with : Option ℕ) → Fits g k reads with
      → Fits (component g i) k reads with
  fits_there k inside None with fits = absurd fits
  fits_there k inside (Some Alone) None fits = fits
  fits_there k inside (Some Alone) (Some j) fits = absurd fits
  fits_there k inside (Some All) None fits = fits
  fits_there k inside (Some All) (Some j) fits = absurd fits
  fits_there k inside (Some Toward) None fits = absurd fits
  fits_there k inside (Some Toward) (Some j) fits = (part.same_links k j).1 (inside, fits)
  fits_there k inside (Some One) None fits = absurd fits
  fits_there k inside (Some One) (Some j) fits = (part.same_links k j).1 (inside, fits)

  module _ {L : Type 0} (app : App L) where
    module _ (K k case : ℕ) (with : Option ℕ) (v v' : ℕ → L) where
      -- an action of one of its nodes is one in the component by itself
      pub acts_there : IsReached g i k → Action app g K k case with v v' → Action app (component g i) K k case with v v'
      acts_there inside act =
          let reads : ℕ → Bool = is_read g k (app.reads case) with in
          let there : ℕ → Bool = is_read (component g i) k (app.reads case) with in
          let near : seen there v (component g i).ids ≡ seen reads v g.ids =
          sym (seen_by_test reads there v (component g i).ids (read_there k inside (app.reads case) with))
          ∙ ap (seen reads v) part.ids in
          record {
            node = (part.same_nodes k).1 inside;
            fits = fits_there k inside (app.reads case) with act.fits;
            new = act.new;
            next = ap (app.next k K case with (v k)) near ∙ act.next;
            changes =
                record {
                  here = act.changes.here;
                  others = λ j at other. act.changes.others j (node_there j at) other;
                };
          }

      -- an action of another node is nothing there
      pub acts_apart : (IsReached g i k → ⊥) → Action app g K k case with v v' → SameAtNodes (component g i) v v'
      acts_apart apart act j at =
          act.changes.others j (node_there j at)
          (λ same. apart (subst (IsReached g i) same ((part.same_nodes j).0 at)))

    module _ (starts : StartsByComponent app) (o : ℕ) (inside : IsReached g i o) (v v' : ℕ → L) where
      -- to reset the component is to give all its nodes their start states
      pub reset_there : SameAtNodes g (reset_of app g o v) v' → SameAtNodes (component g i) (app.start (component g i)) v'
      reset_there same j at =
          let reached : IsReached g i j = (part.same_nodes j).0 at in
          let tests : reaches g o j ≡ true =
          (reaches_tests g o j graph (reached_node g i o graph node inside)).1
          (reached_on g o i j (reached_back g graph i o inside) reached) in
          same j (node_there j at) ∙ ap (λ b. cond b (app.start g j) (v j)) tests
          ∙ sym (starts g i j graph node reached)

    module _ (o : ℕ) (apart : IsReached g i o → ⊥) (v v' : ℕ → L) where
      -- to reset another one is nothing there
      pub reset_apart : SameAtNodes g (reset_of app g o v) v' → SameAtNodes (component g i) v v'
      reset_apart same j at =
          let reached : IsReached g i j = (part.same_nodes j).0 at in
          let never : reaches g o j ≡ false =
          ⊎_elim
          (λ yes. absurd
          (apart (reached_on g i j o reached (reached_back g graph o j (reached_from_test g o j yes)))))
          (λ no_walk. no_walk)
          (cases_Bool (reaches g o j)) in
          same j (node_there j at) ∙ ap (λ b. cond b (app.start g j) (v j)) never
