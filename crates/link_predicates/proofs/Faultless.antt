-- All faults are the application's exactly where the registers are sound.
use Rattle.std.proofs.Common.{◌≡◌, ◌≢◌, ◌⊎◌, inl, inr, ℕ, zero, suc, ◌<◌, nat_eq, Bool, true, false, cond, List, []}
use Rattle.std.proofs.Common.{◌∷◌, ◌++◌, Option, Some, None, length, get_or, flat_map, map, refl, sym, ap, subst, ◌∙◌}
use Rattle.std.proofs.Common.{true≢false, arith}
use Rattle.std.specs.List.{Contains, list_all}
use Rattle.std.proofs.lemmas.Bool.{and_from, and_parts, eq-eqb}
use Rattle.std.proofs.lemmas.Bool.Decides.{eqb_tells}
use Rattle.std.proofs.lemmas.List.Folds.{flat_map-map, list_all-append}
use Rattle.std.proofs.lemmas.Option.{none-some}
use Rattle.app_interface.specs.Application.{App}
use Rattle.topology.specs.Graph.{Graph, AreLinked, IsGraph, IsNode, are_linked, neighbours_of, node_bound, has}
use Rattle.topology.proofs.Membership.{Contains-has, has-Contains, has-filter}
use Rattle.tree_layer.specs.declared.regs.TreeRegs.{TreeRegs}
use Rattle.tree_layer.specs.TreeRows.{Adopts, Follows, IsFather, adopt_root, adopt_short, follow_dist, follow_root}
use Rattle.wave_layer.specs.declared.regs.WaveRegs.{WaveRegs}
use Rattle.wave_layer.specs.WaveTable.{WaveHolds}
use Rattle.reset_model.specs.Configuration.{Configuration, tree_of, wave_of}
use Rattle.reset_model.specs.Sound.{IsSound}
use Rattle.reset_model.specs.View.{near_of}
use Rattle.link_predicates.specs.Faults.{app_row, fault_of, faults, is_of_app, link_faults, mending_row, node_faults}
use Rattle.link_predicates.specs.Faults.{own_row, tree_row, wave_row}
use Rattle.link_predicates.specs.declared.fault.Family.TheVariants.{Tree, Wave, App as OfApp}
use Rattle.link_predicates.specs.declared.fault.LinkFault.{LinkFault}
use Rattle.link_predicates.proofs.EnabledRows.{told_right, told_wrong}
use Rattle.link_predicates.proofs.LinkRows.{Denies, denied_where_right, end_tells, mending_tells}
use Rattle.link_predicates.proofs.OwnRows.{own_tells}

-- all that the lists have pass exactly where all of each list do
module _ {A : Type 0} (p : A → Bool) (f : ℕ → List A) where
  passes_at : (ids : List ℕ) (k : ℕ) → k < length ids → list_all p (flat_map f ids) ≡ true → (j : ℕ)
      → get_or ids k j ≡ j → list_all p (f j) ≡ true
  passes_at [] k short all j is = absurd (omega arith)
  passes_at (i ∷ ids) zero short all j is =
      subst (λ n. list_all p (f n) ≡ true) is (and_parts _ _ (sym (list_all-append p (f i) (flat_map f ids)) ∙ all)).0
  passes_at (i ∷ ids) (suc k) short all j is =
      passes_at ids k (omega arith) (and_parts _ _ (sym (list_all-append p (f i) (flat_map f ids)) ∙ all)).1 j is

  all_pass : (ids : List ℕ) → ((j : ℕ) → Contains ids j → list_all p (f j) ≡ true) → list_all p (flat_map f ids) ≡ true
  all_pass [] each = refl
  all_pass (i ∷ ids) each =
      list_all-append p (f i) (flat_map f ids)
      ∙ and_from _ _ (each i (0, omega arith, refl))
      (all_pass ids (λ j there. each j (suc there.0, omega (arith, there.1), there.2)))

-- a list with a row's fault passes exactly where no row fails
no_tree : (i j : ℕ) (row : Option ℕ) (rest : List LinkFault) → list_all is_of_app (fault_of i j Tree row ++ rest) ≡ true
    → (row ≡ None) × (list_all is_of_app rest ≡ true)
no_tree i j None rest all = (refl, all)
no_tree i j (Some row) rest all = absurd (true≢false (sym all))

no_wave : (i j : ℕ) (row : Option ℕ) (rest : List LinkFault) → list_all is_of_app (fault_of i j Wave row ++ rest) ≡ true
    → (row ≡ None) × (list_all is_of_app rest ≡ true)
no_wave i j None rest all = (refl, all)
no_wave i j (Some row) rest all = absurd (true≢false (sym all))

of_app : (i j : ℕ) (row : Option ℕ) → list_all is_of_app (fault_of i j OfApp row) ≡ true
of_app i j None = refl
of_app i j (Some row) = refl

right_where_denied : {Right : Type 0} (o : Option ℕ) → Denies Right o → o ≡ None → Right
right_where_denied None right none = right
right_where_denied (Some row) wrong none = absurd (none-some row (sym none))

module _ {L : Type 0} (app : App L) (c : Configuration L) (graph : IsGraph c.graph) where
  abbrev g : Graph
  g = c.graph

  abbrev t : ℕ → TreeRegs
  t = tree_of c

  abbrev w : ℕ → WaveRegs
  w = wave_of c

  abbrev pub links : ℕ → ℕ → List LinkFault
  links i j = link_faults app (node_bound g) c.modulus (near_of app c i) (near_of app c j)

  -- what follows the tree's fault at an end, and the wave's
  abbrev last : ℕ → ℕ → List LinkFault
  last i j = fault_of i j OfApp (app_row app (node_bound g) (near_of app c i) (near_of app c j))

  abbrev later : ℕ → ℕ → List LinkFault
  later i j = fault_of i j Wave (wave_row c.modulus (near_of app c i) (near_of app c j)) ++ last i j

  linked_there : (i j : ℕ) → AreLinked g i j → Contains (neighbours_of g i) j
  linked_there i j linked =
      Contains-has (neighbours_of g i) j
      (has-filter (are_linked g i) g.ids j
      ∙ and_from _ _ linked (has-Contains g.ids j (graph.within j (graph.ends j i (graph.symmetric j i ∙ linked)))))

  pub there_linked : (i j : ℕ) → Contains (neighbours_of g i) j → AreLinked g i j
  there_linked i j there =
      (and_parts (are_linked g i j) (has g.ids j)
      (sym (has-filter (are_linked g i) g.ids j) ∙ has-Contains (neighbours_of g i) j there)).0

  pub near_list : (i : ℕ)
      → flat_map (link_faults app (node_bound g) c.modulus (near_of app c i)) (map (near_of app c) (neighbours_of g i))
      ≡ flat_map (links i) (neighbours_of g i)
  near_list i = flat_map-map (link_faults app (node_bound g) c.modulus (near_of app c i)) (near_of app c) (neighbours_of g i)

  -- ---- from faults that are all the application's to sound registers

  module _ (all : list_all is_of_app (faults app c) ≡ true) where
    node : (i : ℕ) → IsNode g i → list_all is_of_app (node_faults app c i) ≡ true
    node i there = passes_at is_of_app (node_faults app c) g.nodes there.0 there.1 all i there.2

    own : (i : ℕ) → IsNode g i → own_row c i ≡ None
    own i there = (no_tree i i (own_row c i) _ (node i there)).0

    link : (i j : ℕ) → AreLinked g i j → list_all is_of_app (links i j) ≡ true
    link i j linked =
        let there = linked_there i j linked in
        let all_links =
        ap (list_all is_of_app) (sym (near_list i))
        ∙ (no_tree i i (own_row c i) _ (node i (graph.ends i j linked))).1 in
        passes_at is_of_app (links i) (neighbours_of g i) there.0 there.1 all_links j there.2

    tree : (i j : ℕ) → AreLinked g i j → tree_row (node_bound g) (near_of app c i) (near_of app c j) ≡ None
    tree i j linked =
        (no_tree i j (tree_row (node_bound g) (near_of app c i) (near_of app c j)) (later i j) (link i j linked)).0

    wave : (i j : ℕ) → AreLinked g i j → wave_row c.modulus (near_of app c i) (near_of app c j) ≡ None
    wave i j linked =
        (no_wave i j (wave_row c.modulus (near_of app c i) (near_of app c j)) (last i j)
        (no_tree i j (tree_row (node_bound g) (near_of app c i) (near_of app c j)) (later i j) (link i j linked)).1).0

    right : (i j : ℕ) (linked : AreLinked g i j) → (IsFather g t i j × Follows g (node_bound g) t i) ⊎ Adopts g (node_bound g) t i j
        → ⊥
    right i j linked = told_right _ (end_tells g (node_bound g) t graph i j linked) (tree i j linked)

    follows : (i : ℕ) → Follows g (node_bound g) t i → ⊥
    follows i (follow_root j father near apart) =
        right i j father.linked (inl (father, follow_root j father near apart))
    follows i (follow_dist j father near same apart) =
        right i j father.linked (inl (father, follow_dist j father near same apart))

    adopts : (i j : ℕ) → Adopts g (node_bound g) t i j → ⊥
    adopts i j (adopt_root linked near higher) = right i j linked (inr (adopt_root linked near higher))
    adopts i j (adopt_short linked near same shorter) = right i j linked (inr (adopt_short linked near same shorter))

    holds : (i j : ℕ) → IsFather g t i j → WaveHolds c.modulus (w i) (w j)
    holds i j father =
        right_where_denied (mending_row c.modulus (w i) (w j)) (mending_tells c.modulus (w i) (w j))
        (sym (ap (λ b. cond b (mending_row c.modulus (w i) (w j)) None) (eq-eqb _ _ father.named)) ∙ wave i j father.linked)

    pub sound : IsSound c
    sound = record {
      tree = λ i there. record {
        claims = told_right _ (own_tells g t graph i) (own i there);
        follows = follows i;
        adopts = adopts i;
      };
      wave = holds;
    }

  -- ---- and back

  module _ (are : IsSound c) where
    tree_silent : (i j : ℕ) → AreLinked g i j → tree_row (node_bound g) (near_of app c i) (near_of app c j) ≡ None
    tree_silent i j linked = told_wrong _ (end_tells g (node_bound g) t graph i j linked) rests
      where
        rests : (IsFather g t i j × Follows g (node_bound g) t i) ⊎ Adopts g (node_bound g) t i j → ⊥
        rests (inl other) = (are.tree i (graph.ends i j linked)).follows other.1
        rests (inr adopts) = (are.tree i (graph.ends i j linked)).adopts j adopts

    wave_silent : (i j : ℕ) → AreLinked g i j → wave_row c.modulus (near_of app c i) (near_of app c j) ≡ None
    wave_silent i j linked = at (eqb_tells (t i).father j)
      where
        at : ((nat_eq (t i).father j ≡ true) × ((t i).father ≡ j))
            ⊎ ((nat_eq (t i).father j ≡ false) × ((t i).father ≢ j))
            → wave_row c.modulus (near_of app c i) (near_of app c j) ≡ None
        at (inl father) =
            ap (λ b. cond b (mending_row c.modulus (w i) (w j)) None) father.0
            ∙ denied_where_right (mending_row c.modulus (w i) (w j)) (mending_tells c.modulus (w i) (w j))
            (are.wave i j (record { named = father.1; linked = linked }))
        at (inr other) = ap (λ b. cond b (mending_row c.modulus (w i) (w j)) None) other.0

    link_silent : (i j : ℕ) → AreLinked g i j → list_all is_of_app (links i j) ≡ true
    link_silent i j linked =
        ap (λ o. list_all is_of_app (fault_of i j Tree o ++ later i j)) (tree_silent i j linked)
        ∙ ap (λ o. list_all is_of_app (fault_of i j Wave o ++ last i j)) (wave_silent i j linked)
        ∙ of_app i j (app_row app (node_bound g) (near_of app c i) (near_of app c j))

    node_silent : (i : ℕ) → IsNode g i → list_all is_of_app (node_faults app c i) ≡ true
    node_silent i there =
        ap (λ o. list_all is_of_app
        (fault_of i i Tree o
        ++ flat_map (link_faults app (node_bound g) c.modulus (near_of app c i)) (map (near_of app c) (neighbours_of g i))))
        (told_wrong _ (own_tells g t graph i) (are.tree i there).claims)
        ∙ ap (list_all is_of_app) (near_list i)
        ∙ all_pass is_of_app (links i) (neighbours_of g i) (λ j near. link_silent i j (there_linked i j near))

    pub silent : list_all is_of_app (faults app c) ≡ true
    silent = all_pass is_of_app (node_faults app c) g.nodes node_silent
