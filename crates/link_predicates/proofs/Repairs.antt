-- The event that repairs a fault of the tree or of the wave is enabled.
use Rattle.std.proofs.Common.{◌≡◌, ◌≢◌, ◌⊎◌, inl, inr, ⊎_elim, ℕ, suc, nat_eq, nat_lt, Bool, true, false}
use Rattle.std.proofs.Common.{cond, List, [], ◌∷◌, ◌++◌, Option, Some, None, flat_map, map, refl, sym, ap}
use Rattle.std.proofs.Common.{subst, ◌∙◌, true≢false, arith}
use Rattle.std.specs.List.{Contains}
use Rattle.std.specs.Prelude.{All, IfSome}
use Rattle.std.proofs.lemmas.Bool.{cases_Bool, cases_eq}
use Rattle.std.proofs.lemmas.Bool.Decides.{eqb_tells}
use Rattle.std.proofs.lemmas.List.Elements.{All-append, All-cons, All-nil}
use Rattle.app_interface.specs.Application.{App}
use Rattle.topology.specs.Graph.{Graph, AreLinked, IsGraph, neighbours_of, node_bound}
use Rattle.tree_layer.specs.declared.regs.TreeRegs.{TreeRegs}
use Rattle.tree_layer.specs.TreeRows.{Adopts, Claims, IsFather}
use Rattle.tree_layer.specs.TreeTable.{tree_table}
use Rattle.wave_layer.specs.declared.regs.WaveRegs.{WaveRegs}
use Rattle.wave_layer.specs.WaveTable.{WaveHolds}
use Rattle.wave_layer.specs.Sessions.{next_session}
use Rattle.reset_model.specs.Configuration.{Configuration, tree_of, wave_of}
use Rattle.reset_model.specs.Steps.{IsEnabled, Mends, mend_both, mend_late, mend_number, mend_reset, reset_at}
use Rattle.reset_model.specs.View.{near_of}
use Rattle.link_predicates.specs.Faults.{app_row, fault_of, faults, link_faults, mending_row, node_faults, own_row}
use Rattle.link_predicates.specs.Faults.{repair_of, tree_row, wave_row}
use Rattle.link_predicates.specs.declared.fault.Family.TheVariants.{Tree, Wave, App as OfApp}
use Rattle.link_predicates.specs.declared.fault.LinkFault.{LinkFault}
use Rattle.reset_model.proofs.EnabledRows.{row_holds}
use Rattle.link_predicates.proofs.EnabledRows.{Tells, first_by, first_of}
use Rattle.link_predicates.proofs.Faultless.{links, near_list, there_linked}
use Rattle.link_predicates.proofs.LinkRows.{Denies, IsOtherFather, adopt_tells, first_of_two, follow_tells, mending_tells, rows}
use Rattle.link_predicates.proofs.LinkRows.{seen}
use Rattle.link_predicates.proofs.OwnRows.{all_near, own_tells, seeing}

-- rows 1 to 4 are below 5
low_row : (p q r s : Bool) → IfSome (first_of 1 2 3 4 p q r s) (λ row. nat_lt row 5 ≡ true)
low_row true q r s = refl
low_row false true r s = refl
low_row false false true s = refl
low_row false false false true = refl
low_row false false false false = tt

-- a row says that the first of two things holds, or the second: rows 5 and 6 the first, rows 7 and 8 the second
abbrev Calls : Type 0 → Type 0 → Option ℕ → Type 0
Calls A B told =
    IfSome told (λ row. (nat_lt row 5 ≡ false) × (((nat_lt row 7 ≡ true) × A) ⊎ ((nat_lt row 7 ≡ false) × B)))

one_calls : (A B : Type 0) (p q r s : Bool) → Tells A (first_of_two 5 6 p q) → Tells B (first_of_two 7 8 r s)
    → Calls A B (first_of 5 6 7 8 p q r s)
one_calls A B true q r s first second = (refl, inl (refl, first))
one_calls A B false true r s first second = (refl, inl (refl, first))
one_calls A B false false true s first second = (refl, inr (refl, second))
one_calls A B false false false true first second = (refl, inr (refl, second))
one_calls A B false false false false first second = tt

-- all of the lists pass where each list does
all_of_each : {X : Type 0} (P : X → Type 0) (f : ℕ → List X) (ids : List ℕ)
    → ((j : ℕ) → Contains ids j → All P (f j)) → All P (flat_map f ids)
all_of_each P f [] each = All-nil P
all_of_each P f (i ∷ ids) each =
    All-append P (f i) (flat_map f ids) (each i (0, omega arith, refl))
    (all_of_each P f ids (λ j there. each j (suc there.0, omega (arith, there.1), there.2)))

module _ {L : Type 0} (app : App L) (c : Configuration L) (graph : IsGraph c.graph) where
  abbrev g : Graph
  g = c.graph

  abbrev t : ℕ → TreeRegs
  t = tree_of c

  abbrev w : ℕ → WaveRegs
  w = wave_of c

  abbrev m : ℕ
  m = c.modulus

  abbrev IsRepaired : LinkFault → Type 0
  IsRepaired fault = IfSome (repair_of fault) (IsEnabled g (node_bound g) m t w)

  -- ---- at a node itself

  own_repaired : (i : ℕ) (o : Option ℕ) → IfSome o (λ row. nat_lt row 5 ≡ true) → Tells (Claims g (node_bound g) t i) o
      → All IsRepaired (fault_of i i Tree o)
  own_repaired i None low claims = All-nil IsRepaired
  own_repaired i (Some row) low claims =
      All-cons IsRepaired _ [] (rw low claims) (All-nil IsRepaired)

  own_low : (i : ℕ) → IfSome (own_row c i) (λ row. nat_lt row 5 ≡ true)
  own_low i =
      let v = seeing i (node_bound g) (t i) (all_near g t graph i) in
      let table = tree_table v (all_near g t graph i) in
      subst (λ o. IfSome o (λ row. nat_lt row 5 ≡ true)) (sym (first_by table 1 2 3 4))
      (low_row (row_holds 1 table) (row_holds 2 table) (row_holds 3 table) (row_holds 4 table))

  -- ---- at an end of a link

  tree_repaired : (i j : ℕ) (o : Option ℕ) → Calls (IsOtherFather g (node_bound g) t i j) (Adopts g (node_bound g) t i j) o
      → All IsRepaired (fault_of i j Tree o)
  tree_repaired i j None calls = All-nil IsRepaired
  tree_repaired i j (Some row) (high, inl (low, follows)) =
      All-cons IsRepaired _ [] (rw (high, low) follows.1) (All-nil IsRepaired)
  tree_repaired i j (Some row) (high, inr (higher, adopts)) =
      All-cons IsRepaired _ [] (rw (high, higher) adopts) (All-nil IsRepaired)

  end_calls : (i j : ℕ) (linked : AreLinked g i j)
      → Calls (IsOtherFather g (node_bound g) t i j) (Adopts g (node_bound g) t i j)
      (tree_row (node_bound g) (near_of app c i) (near_of app c j))
  end_calls i j linked =
      let K = node_bound g in
      let v = seen g K t graph i j linked in
      let holds = rows g K t graph i j linked in
      subst (Calls (IsOtherFather g K t i j) (Adopts g K t i j)) (sym (first_by (tree_table v v.near) 5 6 7 8))
      (one_calls (IsOtherFather g K t i j) (Adopts g K t i j) (holds 5) (holds 6) (holds 7) (holds 8)
      (follow_tells g K t graph i j linked) (adopt_tells g K t graph i j linked))

  -- a node whose registers break the wave predicate with its father's can mend
  mends : (i j : ℕ) → IsFather g t i j → (WaveHolds m (w i) (w j) → ⊥) → Mends g m t w i
  mends i j father broken = ⊎_elim below_reset below_awake (cases_Bool (reset_at w j))
    where
      behind : reset_at w j ≡ true → reset_at w i ≡ false → Mends g m t w i
      behind up own =
          ⊎_elim
          (λ same. absurd (broken (record {
            awake = λ is. absurd (true≢false (sym up ∙ is));
            resetting = λ is. inl (sym same);
          })))
          (λ other. ⊎_elim
          (λ next. absurd (broken (record {
            awake = λ is. absurd (true≢false (sym up ∙ is));
            resetting = λ is. inr (own, next);
          })))
          (λ further. mend_late j father up own other further)
          (cases_eq (w j).session (next_session m (w i).session)))
          (cases_eq (w j).session (w i).session)

      both : reset_at w j ≡ true → reset_at w i ≡ true → Mends g m t w i
      both up own =
          ⊎_elim
          (λ same. absurd (broken (record {
            awake = λ is. absurd (true≢false (sym up ∙ is));
            resetting = λ is. inl same;
          })))
          (λ other. mend_both j father up own other)
          (cases_eq (w i).session (w j).session)

      below_reset : reset_at w j ≡ true → Mends g m t w i
      below_reset up = ⊎_elim (both up) (behind up) (cases_Bool (reset_at w i))

      numbered : reset_at w j ≡ false → reset_at w i ≡ false → Mends g m t w i
      numbered up own =
          ⊎_elim
          (λ same. absurd (broken (record {
            awake = λ is. (own, same);
            resetting = λ is. absurd (true≢false (sym is ∙ up));
          })))
          (λ other. mend_number j father up own other)
          (cases_eq (w i).session (w j).session)

      below_awake : reset_at w j ≡ false → Mends g m t w i
      below_awake up = ⊎_elim (λ own. mend_reset j father up own) (numbered up) (cases_Bool (reset_at w i))

  wave_repaired : (i j : ℕ) (o : Option ℕ) → IsFather g t i j → Denies (WaveHolds m (w i) (w j)) o
      → All IsRepaired (fault_of i j Wave o)
  wave_repaired i j None father denies = All-nil IsRepaired
  wave_repaired i j (Some row) father denies =
      All-cons IsRepaired _ [] (mends i j father denies) (All-nil IsRepaired)

  wave_end : (i j : ℕ) → AreLinked g i j → All IsRepaired (fault_of i j Wave (wave_row m (near_of app c i) (near_of app c j)))
  wave_end i j linked = at (eqb_tells (t i).father j)
    where
      at : ((nat_eq (t i).father j ≡ true) × ((t i).father ≡ j)) ⊎ ((nat_eq (t i).father j ≡ false) × ((t i).father ≢ j))
          → All IsRepaired (fault_of i j Wave (wave_row m (near_of app c i) (near_of app c j)))
      at (inl father) =
          subst (λ o. All IsRepaired (fault_of i j Wave o))
          (sym (ap (λ b. cond b (mending_row m (w i) (w j)) None) father.0))
          (wave_repaired i j (mending_row m (w i) (w j)) (record { named = father.1; linked = linked })
          (mending_tells m (w i) (w j)))
      at (inr other) =
          subst (λ o. All IsRepaired (fault_of i j Wave o))
          (sym (ap (λ b. cond b (mending_row m (w i) (w j)) None) other.0)) (All-nil IsRepaired)

  app_end : (i j : ℕ) (o : Option ℕ) → All IsRepaired (fault_of i j OfApp o)
  app_end i j None = All-nil IsRepaired
  app_end i j (Some row) = All-cons IsRepaired _ [] tt (All-nil IsRepaired)

  link_repaired : (i j : ℕ) → AreLinked g i j → All IsRepaired (links app c graph i j)
  link_repaired i j linked =
      let other = fault_of i j OfApp (app_row app (node_bound g) (near_of app c i) (near_of app c j)) in
      let wave = fault_of i j Wave (wave_row m (near_of app c i) (near_of app c j)) in
      All-append IsRepaired (fault_of i j Tree (tree_row (node_bound g) (near_of app c i) (near_of app c j))) (wave ++ other)
      (tree_repaired i j _ (end_calls i j linked))
      (All-append IsRepaired wave other (wave_end i j linked)
      (app_end i j (app_row app (node_bound g) (near_of app c i) (near_of app c j))))

  -- ---- at all nodes

  near_repaired : (i : ℕ) → All IsRepaired
      (flat_map (link_faults app (node_bound g) m (near_of app c i)) (map (near_of app c) (neighbours_of g i)))
  near_repaired i =
      subst (All IsRepaired)
      (sym (near_list app c graph i))
      (all_of_each IsRepaired (links app c graph i) (neighbours_of g i)
      (λ j there. link_repaired i j (there_linked app c graph i j there)))

  node_repaired : (i : ℕ) → All IsRepaired (node_faults app c i)
  node_repaired i =
      All-append IsRepaired (fault_of i i Tree (own_row c i)) _
      (own_repaired i (own_row c i) (own_low i) (own_tells g t graph i)) (near_repaired i)

  pub all_repaired : All IsRepaired (faults app c)
  all_repaired = all_of_each IsRepaired (node_faults app c) g.nodes (λ i there. node_repaired i)
