-- An event of which no row is enabled isn't allowed.
use Rattle.std.proofs.Common.{◌≡◌, ℕ, ◌+◌, nat_lt, Bool, true, false, cond, ◌&&◌, ◌||◌, ◌==◌, List, [], ◌∷◌}
use Rattle.std.proofs.Common.{Option, Some, None, Result, Ok, Err, is_ok, true≢false, refl, sym, ap, ◌∙◌}
use Rattle.std.specs.List.{list_any}
use Rattle.std.proofs.lemmas.Bool.{or_left, or_right}
use Rattle.std.proofs.lemmas.Option.{none-some, same_Some}
use Rattle.action_tables.specs.Nodes.{regs_of}
use Rattle.action_tables.specs.Numbers.{is_among}
use Rattle.action_tables.specs.Table.{Row, fired_of, fired_toward}
use Rattle.tree_layer.specs.declared.regs.TreeRegs.{TreeRegs}
use Rattle.tree_layer.specs.declared.regs.TreeRefusal.{TreeRefusal}
use Rattle.tree_layer.specs.declared.regs.TreeRefusal.TheVariants as tree_refusal
use Rattle.tree_layer.specs.TreeTable.{tree_table}
use Rattle.tree_layer.specs.TreeTable as tree
use Rattle.wave_layer.specs.declared.regs.WaveRegs.{WaveRegs}
use Rattle.wave_layer.specs.declared.regs.WaveMove.{WaveMove}
use Rattle.wave_layer.specs.declared.regs.WaveRefusal.{WaveRefusal}
use Rattle.wave_layer.specs.declared.regs.WaveRefusal.TheVariants as wave_refusal
use Rattle.wave_layer.specs.WaveTable.{any_initiate, is_initiate, is_normal, wave_table}
use Rattle.wave_layer.specs.WaveTable as wave
use Rattle.reset_model.specs.declared.event.Event.{Event}
use Rattle.reset_model.specs.declared.event.Event.TheVariants.{Claim, Follow, Adopt, Request, Relay, Open, Join, Finish}
use Rattle.reset_model.specs.declared.event.Event.TheVariants.{Mend, Act}
use Rattle.reset_model.specs.declared.plan.Fired.{Fired}
use Rattle.reset_model.specs.declared.plan.Seen.{Seen}
use Rattle.reset_model.specs.declared.plan.Seen.TheVariants.{Tree, Wave}
use Rattle.reset_model.specs.declared.step.StepRefusal.{StepRefusal}
use Rattle.reset_model.specs.declared.step.StepRefusal.TheVariants.{StrangeNode, StrangeNeighbour, NoSuchCase}
use Rattle.reset_model.specs.declared.step.StepRefusal.TheVariants.{WantsNeighbour, TakesNoNeighbour, Disagrees}
use Rattle.reset_model.specs.declared.step.StepRefusal.TheVariants.{NotEnabled, NoMemory}
use Rattle.reset_model.specs.LocalSteps.{cases_of, first_fired, fired_row, fired_tree, fired_wave, or_next}
use Rattle.reset_model.specs.Steps.{named_node}
use Rattle.reset_model.proofs.EnabledRows.{among_enabled, row_holds}
use Rattle.node_choices.specs.Sight.{IsOfLayer, enabled_in, some_among}

-- ---- one row

fired_here : {T E : Type 0} (is_n holds : Bool) (does later : Result T E) (not_enabled : E) (more : Bool)
    → (is_ok later ≡ true → more ≡ true) → is_ok (cond is_n (cond holds does (Err not_enabled)) later) ≡ true
    → ((is_n && holds) || more) ≡ true
fired_here true true does later not_enabled more rest ok = refl
fired_here true false does later not_enabled more rest ok = absurd (true≢false (sym ok))
fired_here false holds does later not_enabled more rest ok = rest ok

-- a row that fires is one whose guard holds
fired_holds : {T E : Type 0} (no_such not_enabled : E) (rows : List (Row (Result T E))) (n : ℕ)
    → is_ok (fired_of no_such not_enabled rows n) ≡ true → row_holds n rows ≡ true
fired_holds no_such not_enabled [] n ok = absurd (true≢false (sym ok))
fired_holds no_such not_enabled (row ∷ rows) n ok =
    fired_here (row.number == n) row.holds row.does (fired_of no_such not_enabled rows n) not_enabled (row_holds n rows)
    (fired_holds no_such not_enabled rows n) ok

tree_ok : (r : Result TreeRegs TreeRefusal) → is_ok (fired_tree r) ≡ true → is_ok r ≡ true
tree_ok (Ok regs) ok = refl
tree_ok (Err tree_refusal.NoSuchCase) ok = ok
tree_ok (Err tree_refusal.StrangeNeighbour) ok = ok
tree_ok (Err tree_refusal.NotEnabled) ok = ok

wave_ok : (r : Result WaveMove WaveRefusal) → is_ok (fired_wave r) ≡ true → is_ok r ≡ true
wave_ok (Ok move) ok = refl
wave_ok (Err wave_refusal.NoSuchCase) ok = ok
wave_ok (Err wave_refusal.NotChild) ok = ok
wave_ok (Err wave_refusal.NotEnabled) ok = ok

-- one that some node passes which is named, some node passes
passes_here : {R : Type 0} (p : R → Bool) (j : ℕ) (node : ℕ × R) (nodes : List (ℕ × R)) (regs : R) (is_j : Bool)
    → cond is_j (Some node.1) (regs_of j nodes) ≡ Some regs → p regs ≡ true
    → (regs_of j nodes ≡ Some regs → list_any (λ n. p n.1) nodes ≡ true)
    → (p node.1 || list_any (λ n. p n.1) nodes) ≡ true
passes_here p j node nodes regs true is passes later =
    or_left (p node.1) (list_any (λ n. p n.1) nodes) (ap p (same_Some node.1 regs is) ∙ passes)
passes_here p j node nodes regs false is passes later = or_right (p node.1) (list_any (λ n. p n.1) nodes) (later is)

or_none : (b : Bool) → (b || false) ≡ b
or_none true = refl
or_none false = refl

-- the guard of the relay, of one child and of all
relay_holds : (normal one all : Bool) → ((normal && (one || false)) || false) ≡ true → (one ≡ true → all ≡ true)
    → ((normal && all) || false) ≡ true
relay_holds true true all holds some = ap (λ b. b || false) (some refl)
relay_holds true false all holds some = absurd (true≢false (sym holds))
relay_holds false one all holds some = absurd (true≢false (sym holds))

some_passes : {R : Type 0} (p : R → Bool) (j : ℕ) (nodes : List (ℕ × R)) (regs : R) → regs_of j nodes ≡ Some regs
    → p regs ≡ true → list_any (λ n. p n.1) nodes ≡ true
some_passes p j [] regs is passes = absurd (none-some regs is)
some_passes p j (node ∷ nodes) regs is passes = passes_here p j node nodes regs (node.0 == j) is passes
    (λ later. some_passes p j nodes regs later passes)

-- ---- the rows of an event

-- a case fires only where it is among the rows that are enabled
abbrev FiresAmong : Seen → Option ℕ → ℕ → Type 0
FiresAmong seen named n = is_ok (fired_row seen named n) ≡ true → is_among n (enabled_in seen) ≡ true

abbrev AllFireAmong : Seen → Option ℕ → List ℕ → Type 0
AllFireAmong seen named [] = Unit {0}
AllFireAmong seen named (n ∷ ns) = FiresAmong seen named n × AllFireAmong seen named ns

one_or_next : (does next : Result Fired StepRefusal) (here later : Bool) → (is_ok does ≡ true → here ≡ true)
    → (is_ok next ≡ true → later ≡ true) → is_ok (or_next does next) ≡ true → (here || later) ≡ true
one_or_next (Ok does) next here later now then ok = or_left here later (now refl)
one_or_next (Err StrangeNode) next here later now then ok = absurd (true≢false (sym ok))
one_or_next (Err StrangeNeighbour) next here later now then ok = absurd (true≢false (sym ok))
one_or_next (Err NoSuchCase) next here later now then ok = absurd (true≢false (sym ok))
one_or_next (Err WantsNeighbour) next here later now then ok = absurd (true≢false (sym ok))
one_or_next (Err TakesNoNeighbour) next here later now then ok = absurd (true≢false (sym ok))
one_or_next (Err (Disagrees j)) next here later now then ok = absurd (true≢false (sym ok))
one_or_next (Err NotEnabled) next here later now then ok = or_right here later (then ok)
one_or_next (Err NoMemory) next here later now then ok = absurd (true≢false (sym ok))

some_fires : (seen : Seen) (named : Option ℕ) (cases : List ℕ) → AllFireAmong seen named cases
    → is_ok (first_fired seen named cases) ≡ true → some_among (enabled_in seen) cases ≡ true
some_fires seen named [] all ok = absurd (true≢false (sym ok))
some_fires seen named (n ∷ ns) all ok =
    one_or_next (fired_row seen named n) (first_fired seen named ns) (is_among n (enabled_in seen))
    (some_among (enabled_in seen) ns) all.0 (some_fires seen named ns all.1) ok

module _ (v : tree.LocalView) where
  -- a row that names no neighbour
  tree_alone : (n : ℕ) → row_holds n (tree_table v []) ≡ row_holds n (tree_table v v.near)
      → is_ok (fired_tree (fired_of tree_refusal.NoSuchCase tree_refusal.NotEnabled (tree_table v []) n)) ≡ true
      → is_among n (enabled_in (Tree v)) ≡ true
  tree_alone n same ok =
      among_enabled n (tree_table v v.near) ∙ sym same
      ∙ fired_holds tree_refusal.NoSuchCase tree_refusal.NotEnabled (tree_table v []) n
      (tree_ok (fired_of tree_refusal.NoSuchCase tree_refusal.NotEnabled (tree_table v []) n) ok)

  -- one that names one
  tree_toward : (p : TreeRegs → Bool) (n j : ℕ) → ((asked : List (ℕ × TreeRegs)) → row_holds n (tree_table v asked)
      ≡ (list_any (λ a. p a.1) asked || false)) → (regs : Option TreeRegs) → regs_of j v.near ≡ regs
      → is_ok (fired_tree (fired_toward tree_refusal.StrangeNeighbour
      (λ asked. fired_of tree_refusal.NoSuchCase tree_refusal.NotEnabled (tree_table v asked) n) j regs)) ≡ true
      → is_among n (enabled_in (Tree v)) ≡ true
  tree_toward p n j row None is ok = absurd (true≢false (sym ok))
  tree_toward p n j row (Some regs) is ok =
      let asked : List (ℕ × TreeRegs) = (j, regs) ∷ [] in
      let fired = fired_of tree_refusal.NoSuchCase tree_refusal.NotEnabled (tree_table v asked) n in
      let holds = fired_holds tree_refusal.NoSuchCase tree_refusal.NotEnabled (tree_table v asked) n (tree_ok fired ok) in
      let passes : p regs ≡ true = sym (or_none (p regs)) ∙ sym (or_none (p regs || false)) ∙ sym (row asked) ∙ holds in
      among_enabled n (tree_table v v.near) ∙ row v.near
      ∙ or_left (list_any (λ a. p a.1) v.near) false (some_passes p j v.near regs is passes)

module _ (v : wave.LocalView) where
  wave_alone : (n : ℕ) → row_holds n (wave_table v []) ≡ row_holds n (wave_table v v.children)
      → is_ok (fired_wave (fired_of wave_refusal.NoSuchCase wave_refusal.NotEnabled (wave_table v []) n)) ≡ true
      → is_among n (enabled_in (Wave v)) ≡ true
  wave_alone n same ok =
      among_enabled n (wave_table v v.children) ∙ sym same
      ∙ fired_holds wave_refusal.NoSuchCase wave_refusal.NotEnabled (wave_table v []) n
      (wave_ok (fired_of wave_refusal.NoSuchCase wave_refusal.NotEnabled (wave_table v []) n) ok)

  -- the relay
  relay_toward : (j : ℕ) (child : Option WaveRegs) → regs_of j v.children ≡ child
      → is_ok (fired_wave (fired_toward wave_refusal.NotChild
      (λ asked. fired_of wave_refusal.NoSuchCase wave_refusal.NotEnabled (wave_table v asked) 2) j child)) ≡ true
      → is_among 2 (enabled_in (Wave v)) ≡ true
  relay_toward j None is ok = absurd (true≢false (sym ok))
  relay_toward j (Some regs) is ok =
      let asked : List (ℕ × WaveRegs) = (j, regs) ∷ [] in
      let fired = fired_of wave_refusal.NoSuchCase wave_refusal.NotEnabled (wave_table v asked) 2 in
      let holds = fired_holds wave_refusal.NoSuchCase wave_refusal.NotEnabled (wave_table v asked) 2 (wave_ok fired ok) in
      among_enabled 2 (wave_table v v.children)
      ∙ relay_holds (is_normal v.own.phase) (is_initiate regs.phase) (any_initiate v.children) holds
      (some_passes (λ r. is_initiate r.phase) j v.children regs is)

-- the rows of an event of the layer fire only where they are enabled
fires_among : (seen : Seen) (e : Event) → IsOfLayer seen e → AllFireAmong seen (named_node e) (cases_of e)
fires_among (Tree v) (Claim i) is =
    (tree_alone v 1 refl, (tree_alone v 2 refl, (tree_alone v 3 refl, (tree_alone v 4 refl, record {}))))
fires_among (Tree v) (Follow i) is = (tree_alone v 5 refl, (tree_alone v 6 refl, record {}))
fires_among (Tree v) (Adopt i j) is = (
  tree_toward v
      (λ r. nat_lt r.dist v.bound && nat_lt v.own.root r.root) 7 j (λ asked. refl) (regs_of j v.near) refl,
  (
    tree_toward v (λ r. nat_lt r.dist v.bound && v.own.root == r.root && nat_lt (r.dist + 1) v.own.dist) 8 j
        (λ asked. refl) (regs_of j v.near) refl,
    record {},
  ),
)
fires_among (Tree v) (Request i) is = absurd (true≢false (sym is))
fires_among (Tree v) (Relay i c) is = absurd (true≢false (sym is))
fires_among (Tree v) (Open i) is = absurd (true≢false (sym is))
fires_among (Tree v) (Join i) is = absurd (true≢false (sym is))
fires_among (Tree v) (Finish i) is = absurd (true≢false (sym is))
fires_among (Tree v) (Mend i) is = absurd (true≢false (sym is))
fires_among (Tree v) (Act i case with) is = absurd (true≢false (sym is))
fires_among (Wave v) (Claim i) is = absurd (true≢false is)
fires_among (Wave v) (Follow i) is = absurd (true≢false is)
fires_among (Wave v) (Adopt i j) is = absurd (true≢false is)
fires_among (Wave v) (Request i) is = (wave_alone v 1 refl, record {})
fires_among (Wave v) (Relay i c) is = (relay_toward v c (regs_of c v.children) refl, record {})
fires_among (Wave v) (Open i) is = (wave_alone v 3 refl, record {})
fires_among (Wave v) (Join i) is = (wave_alone v 4 refl, (wave_alone v 5 refl, record {}))
fires_among (Wave v) (Finish i) is = (wave_alone v 6 refl, (wave_alone v 7 refl, record {}))
fires_among (Wave v) (Mend i) is =
    (wave_alone v 8 refl, (wave_alone v 9 refl, (wave_alone v 10 refl, (wave_alone v 11 refl, record {}))))
fires_among (Wave v) (Act i case with) is = record {}

neither : (some sees fires : Bool) → (fires ≡ true → some ≡ true) → some ≡ false → false ≡ (sees && fires)
neither some false fires among none = refl
neither some true true among none = absurd (true≢false (sym (among refl) ∙ none))
neither some true false among none = refl

-- where no case of the event is among the rows, none of them fires
pub none_fires : (seen : Seen) (e : Event) (sees : Bool) (rows : List ℕ) → IsOfLayer seen e → rows ≡ enabled_in seen
    → some_among rows (cases_of e) ≡ false → false ≡ (sees && is_ok (first_fired seen (named_node e) (cases_of e)))
none_fires seen e sees rows layer are none =
    neither (some_among (enabled_in seen) (cases_of e)) sees (is_ok (first_fired seen (named_node e) (cases_of e)))
    (some_fires seen (named_node e) (cases_of e) (fires_among seen e layer))
    (sym (ap (λ r. some_among r (cases_of e)) are) ∙ none)
