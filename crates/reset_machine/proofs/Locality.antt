-- Whether a node has something to do turns on what the node sees alone.
use Rattle.std.proofs.Common.{◌≡◌, ◌≢◌, ◌&&◌, ℕ, Bool, true, false, cond, List, [], ◌∷◌, filter, map, slice_index, is_ok}
use Rattle.std.proofs.Common.{length, ⊎_elim, refl, sym, ap, ap₂, subst, ◌∙◌, arith, Option, None, Some, IfSome}
use Rattle.std.specs.List.{list_any}
use Rattle.std.proofs.lemmas.Bool.{false≢true}
use Rattle.std.proofs.lemmas.List.Elements.{filter_agree}
use Rattle.action_tables.specs.Numbers.{all_cases}
use Rattle.action_tables.specs.Table.{enabled_of}
use Rattle.app_interface.specs.Application.{App}
use Rattle.topology.specs.Graph.{Graph, IsGraph, are_linked, is_node, neighbours_of, node_bound}
use Rattle.tree_layer.specs.TreeTable.{tree_table}
use Rattle.tree_layer.specs.declared.regs.TreeRegs.{TreeRegs}
use Rattle.wave_layer.specs.WaveTable.{wave_table}
use Rattle.wave_layer.specs.declared.regs.WaveRegs.{WaveRegs}
use Rattle.wave_layer.specs.declared.regs.Phase.TheVariants.{Normal}
use Rattle.reset_model.specs.Configuration.{Configuration, local_of, tree_of, wave_of, with_local, with_tree, with_wave}
use Rattle.reset_model.specs.Planned.{case_taken}
use Rattle.reset_model.specs.View.{NodeView, near_of, tree_view, view_of, wave_view}
use Rattle.reset_model.proofs.Positions.{value_at-put_at_other}
use Rattle.reset_model.proofs.ViewedOutcomes.{case-is, tree_view-is, wave_view-is}
use Rattle.reset_machine.specs.Enabled.{arguments_of, has_work, has_work_at, is_ready, is_taken}
use Rattle.reset_machine.specs.Known.{IsKnown}
use Rattle.reset_machine.specs.ReadySet.{DoubtsAll, DoubtsAnyAround, DoubtsAround, Settles, Standing, last_in_doubt}
use Rattle.reset_machine.proofs.NearSeen.{same_neighbour, same_view}

-- ---- what a node sees

-- two maps that agree where the test passes make the same of what passes
map_agree : {X : Type 0} (f f' : ℕ → X) (p : ℕ → Bool) (xs : List ℕ) → ((k : ℕ) → p k ≡ true → f k ≡ f' k)
    → map f (filter p xs) ≡ map f' (filter p xs)
map_agree f f' p [] same = refl
map_agree {X} f f' p (x ∷ xs) same = at (p x) refl (map_agree f f' p xs same)
  where
    at : (b : Bool) → p x ≡ b → map f (filter p xs) ≡ map f' (filter p xs)
        → map f (cond b (x ∷ filter p xs) (filter p xs)) ≡ map f' (cond b (x ∷ filter p xs) (filter p xs))
    at true passes rest = let one : X → List X → List X = λ y ys. y ∷ ys in ap₂ one (same x passes) rest
    at false fails rest = rest

-- but for the node i, d has what c has
pub record AgreesBut {L : Type 0} (app : App L) (c d : Configuration L) (i : ℕ) : Type 0 where
  pub graph : d.graph ≡ c.graph
  pub modulus : d.modulus ≡ c.modulus
  pub tree : (k : ℕ) → k ≢ i → tree_of d k ≡ tree_of c k
  pub wave : (k : ℕ) → k ≢ i → wave_of d k ≡ wave_of c k
  pub local : (k : ℕ) → k ≢ i → local_of app d k ≡ local_of app c k

module _ {L : Type 0} (app : App L) where
  -- whether there is something to do, by what is seen
  abbrev seen_ready : Graph → NodeView L → Bool
  seen_ready g v =
      let t = tree_view v in
      let w = wave_view v in
      has_work (enabled_of (tree_table t t.near)) (enabled_of (wave_table w w.children))
      (filter (λ case. list_any (λ with. is_ok (case_taken app v case with)) (arguments_of g v.id (app.reads case)))
      all_cases)

  work-seen : (c : Configuration L) (i : ℕ) → IsGraph c.graph
      → has_work_at app c i ≡ seen_ready c.graph (view_of app c i)
  work-seen c i graph =
      let taken = is_taken app c.graph (node_bound c.graph) (wave_of c) (local_of app c) i in
      let acts =
      filter_agree taken
      (λ case. list_any (λ with. is_ok (case_taken app (view_of app c i) case with))
      (arguments_of c.graph i (app.reads case)))
      (λ case. λ j. list_any (λ with. is_ok (sym (case-is app c graph i case with) j))
      (arguments_of c.graph i (app.reads case)))
      all_cases in
      ap₂ (λ ts ws. has_work ts ws (filter taken all_cases))
      (ap (λ t. enabled_of (tree_table t t.near)) (sym (tree_view-is app c i)))
      (ap (λ w. enabled_of (wave_table w w.children)) (sym (wave_view-is app c graph i)))
      ∙ ap (λ ns. has_work (enabled_of (let t = tree_view (view_of app c i) in tree_table t t.near))
      (enabled_of (let w = wave_view (view_of app c i) in wave_table w w.children)) ns) acts

  module _ (c d : Configuration L) (i : ℕ) (agrees : AgreesBut app c d i) where
    -- a node that is neither i nor a neighbour of i sees the same
    same_seen : (j : ℕ) → j ≢ i → are_linked c.graph j i ≡ false → view_of app d j ≡ view_of app c j
    same_seen j other stranger =
        same_view j j (node_bound d.graph) (node_bound c.graph) d.modulus c.modulus (tree_of d j) (tree_of c j) (wave_of d j)
        (wave_of c j) (local_of app d j) (local_of app c j) (app.start d.graph j) (app.start c.graph j) _ _ refl
        (ap node_bound agrees.graph) agrees.modulus (agrees.tree j other) (agrees.wave j other)
        (agrees.local j other)
        (ap (λ g. app.start g j) agrees.graph)
        (ap (λ g. map (near_of app d) (neighbours_of g j)) agrees.graph
        ∙ map_agree (near_of app d) (near_of app c) (are_linked c.graph j) c.graph.ids
        (λ k linked. let apart : k ≢ i = λ same.
        false≢true (sym stranger ∙ ap (are_linked c.graph j) (sym same) ∙ linked) in
        same_neighbour k k (tree_of d k) (tree_of c k) (wave_of d k) (wave_of c k) (local_of app d k) (local_of app c k)
        refl (agrees.tree k apart) (agrees.wave k apart) (agrees.local k apart)))

    pub same_readiness : IsGraph c.graph → (j : ℕ) → j ≢ i → are_linked c.graph j i ≡ false
        → is_ready app d j ≡ is_ready app c j
    same_readiness graph j other stranger =
        let works : has_work_at app d j ≡ has_work_at app c j =
        work-seen d j (subst IsGraph (sym agrees.graph) graph)
        ∙ ap₂ seen_ready agrees.graph (same_seen j other stranger) ∙ sym (work-seen c j graph) in
        ap₂ (λ (g : Graph) b. is_node g j && b) agrees.graph works

  -- ---- what is known, after a write

  abbrev no_tree : TreeRegs
  no_tree = record { root = 0; father = 0; dist = 0 }

  abbrev no_wave : WaveRegs
  no_wave = record { phase = Normal; session = 0 }

  module _ (c : Configuration L) (n : ℕ) (graph : IsGraph c.graph) where
    abbrev at : ℕ
    at = slice_index c.graph.ids n

    still_known : (s t : Standing) → IsKnown app c s → DoubtsAround c.graph s n t → (d : Configuration L)
        → d.graph ≡ c.graph → AgreesBut app c d at → IsKnown app d t
    still_known s t known doubts d same agrees = record {
      count = doubts.count ∙ known.count ∙ ap (λ (g : Graph). length g.ids) (sym same);
      ready = λ m is. let before = doubts.ready m is in
          ap (λ (g : Graph). is_ready app d (slice_index g.ids m)) same
          ∙ same_readiness c d at agrees graph (slice_index c.graph.ids m) before.1.0 before.1.1
          ∙ known.ready m before.0;
      idle = λ m is. let before = doubts.idle m is in
          ap (λ (g : Graph). is_ready app d (slice_index g.ids m)) same
          ∙ same_readiness c d at agrees graph (slice_index c.graph.ids m) before.1.0 before.1.1
          ∙ known.idle m before.0;
    }

    -- what is known before and after a write, if anything is
    module _ (before after : Option Standing) (known : IfSome before (IsKnown app c))
        (doubts : DoubtsAnyAround c.graph before n after) where
      known_but : (d : Configuration L) → d.graph ≡ c.graph → AgreesBut app c d at → IfSome after (IsKnown app d)
      known_but d same agrees = any before after known doubts
        where
          any : (s t : Option Standing) → IfSome s (IsKnown app c) → DoubtsAnyAround c.graph s n t
              → IfSome t (IsKnown app d)
          any None t is none = subst (λ k. IfSome k (IsKnown app d)) (sym none) tt
          any (Some s) None is none = absurd none
          any (Some s) (Some t) is around = still_known s t is around d same agrees

      pub known_tree : (regs : TreeRegs) → IfSome after (IsKnown app (with_tree c at regs))
      known_tree regs = known_but (with_tree c at regs) refl (record {
        graph = refl;
        modulus = refl;
        tree = λ k other. value_at-put_at_other no_tree c.graph.ids c.trees at k regs other;
        wave = λ k other. refl;
        local = λ k other. refl;
      })

      pub known_wave : (regs : WaveRegs) → IfSome after (IsKnown app (with_wave c at regs))
      known_wave regs = known_but (with_wave c at regs) refl (record {
        graph = refl;
        modulus = refl;
        tree = λ k other. refl;
        wave = λ k other. value_at-put_at_other no_wave c.graph.ids c.waves at k regs other;
        local = λ k other. refl;
      })

      pub known_local : (local : L) → IfSome after (IsKnown app (with_local c at local))
      known_local local = known_but (with_local c at local) refl (record {
        graph = refl;
        modulus = refl;
        tree = λ k other. refl;
        wave = λ k other. refl;
        local = λ k other. value_at-put_at_other (app.start c.graph k) c.graph.ids c.locals at k local other;
      })

      -- both registers of the wave and the local state
      pub known_restart : (regs : WaveRegs) (local : L)
          → IfSome after (IsKnown app (with_wave (with_local c at local) at regs))
      known_restart regs local = known_but (with_wave (with_local c at local) at regs) refl (record {
        graph = refl;
        modulus = refl;
        tree = λ k other. refl;
        wave = λ k other. value_at-put_at_other no_wave c.graph.ids c.waves at k regs other;
        local = λ k other. value_at-put_at_other (app.start c.graph k) c.graph.ids c.locals at k local other;
      })

  -- of all nodes in doubt nothing is known
  pub known_none : (c : Configuration L) (s : Standing) → length s.nodes ≡ length c.graph.ids → DoubtsAll s
      → IsKnown app c s
  known_none c s count doubts = record {
    count = count;
    ready = λ n is. absurd (omega (arith, is.1, doubts.0));
    idle = λ n is. absurd (omega (arith, is.1, is.2, doubts.1));
  }

  -- a node in doubt is known by its test
  pub known_settled : (c : Configuration L) (s t : Standing) (b : Bool) (n : ℕ) → n ≡ last_in_doubt s
      → b ≡ is_ready app c (slice_index c.graph.ids n) → IsKnown app c s → Settles s b t → IsKnown app c t
  known_settled c s t b n last tested known settles = record {
    count = settles.count ∙ known.count;
    ready = λ m is. ⊎_elim (known.ready m)
        (λ new. ap (λ k. is_ready app c (slice_index c.graph.ids k)) (new.0 ∙ sym last) ∙ sym tested ∙ new.1)
        (settles.ready m is);
    idle = λ m is. ⊎_elim (known.idle m)
        (λ new. ap (λ k. is_ready app c (slice_index c.graph.ids k)) (new.0 ∙ sym last) ∙ sym tested ∙ new.1)
        (settles.idle m is);
  }
