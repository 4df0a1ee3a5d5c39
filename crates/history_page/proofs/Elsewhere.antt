-- An entry changes what fails at the nodes alone that it concerns.
use Rattle.std.proofs.Common.{◌≡◌, ◌≢◌, ℕ, ◌==◌, Bool, true, false, not, ◌&&◌, ◌||◌, cond, List, [], ◌∷◌, ◌++◌, filter}
use Rattle.std.proofs.Common.{map, length, Contains, Option, Some, None, Result, Ok, Err, refl, sym, ap, ap₂, subst}
use Rattle.std.proofs.Common.{◌∙◌}
use Rattle.std.specs.List.{flat_map}
use Rattle.std.proofs.Math.Bool.{and-false, and-true, or-false}
use Rattle.std.proofs.lemmas.Bool.{eq-eqb, eqb-true, false≢true, ne_eqb, not-false, or_parts}
use Rattle.std.proofs.lemmas.List.Elements.{filter_agree}
use Rattle.action_tables.specs.Table.{enabled_of}
use Rattle.app_interface.specs.Application.{App}
use Rattle.topology.specs.Building.{joins}
use Rattle.topology.specs.Changing.{first_of, with_link, with_node, without_link, without_node}
use Rattle.topology.specs.Graph.{Graph, IsGraph, are_linked, has, is_node, neighbours_of, node_bound}
use Rattle.topology.proofs.Changed.{has_fewer, has_more}
use Rattle.topology.proofs.Membership.{Contains-has, has-Contains, has-filter}
use Rattle.topology.proofs.NodeChanges.{linked_left, node_joined, node_left}
use Rattle.topology.proofs.Reasons.{none_holds}
use Rattle.tree_layer.specs.TreeRows.{claimed}
use Rattle.tree_layer.specs.TreeTable as tree
use Rattle.tree_layer.specs.TreeTable.{tree_table}
use Rattle.wave_layer.specs.declared.regs.Phase.TheVariants.{Normal}
use Rattle.reset_model.specs.Configuration.{Configuration, IsShaped, local_of, tree_of, wave_of}
use Rattle.reset_model.specs.Steps.{event_node}
use Rattle.reset_model.specs.Topologies.{comes_up, with_topology}
use Rattle.reset_model.specs.View.{Neighbour, near_of, near_trees}
use Rattle.reset_model.proofs.OtherGraphs.{local_there, tree_there, wave_there}
use Rattle.reset_model.proofs.ViewedOutcomes.{tree_view-is}
use Rattle.reset_machine.proofs.NearSeen.{same_neighbour}
use Rattle.link_predicates.specs.Faults.{fault_of, first_enabled, link_faults, node_faults}
use Rattle.link_predicates.specs.declared.fault.Family.TheVariants.{Tree}
use Rattle.link_predicates.specs.declared.fault.LinkFault.{LinkFault}
use Rattle.fault_inject.specs.Effects.{damaged, injected, refusals}
use Rattle.fault_inject.specs.declared.fault.Fault.{Fault}
use Rattle.fault_inject.specs.declared.fault.Fault.TheVariants.{SetTree, SetWave, SetLocal, LinkDown, LinkUp}
use Rattle.fault_inject.specs.declared.fault.Fault.TheVariants.{NodeDown, NodeUp}
use Rattle.fault_inject.specs.declared.refusal.FaultRefusal.{FaultRefusal}
use Rattle.history.specs.declared.entry.Entry.{Entry}
use Rattle.history.specs.declared.entry.Entry.TheVariants.{Step, Disturbed}
use Rattle.history.specs.Entries.{entered, left_by_fault}
use Rattle.history_page.specs.Entries.{concerned}
use Rattle.history_page.specs.Failing.{failing}
use Rattle.history_page.proofs.Written.{IsWrittenAt, damaged_written, entered_written}

-- ---- lists

has_append : (xs ys : List ℕ) (x : ℕ) → has (xs ++ ys) x ≡ (has xs x || has ys x)
has_append [] ys x = refl
has_append (z ∷ zs) ys x = ap (λ b. (z == x) || b) (has_append zs ys x) ∙ grouped (z == x) (has zs x) (has ys x)
  where
    grouped : (s t u : Bool) → (s || (t || u)) ≡ ((s || t) || u)
    grouped true t u = refl
    grouped false t u = refl

-- where the first reason that holds is none, none of them holds
-- two maps that agree where the test passes make the same of what passes
map_agree : {X : Type 0} (f f' : ℕ → X) (p : ℕ → Bool) (xs : List ℕ) → ((k : ℕ) → p k ≡ true → f k ≡ f' k)
    → map f (filter p xs) ≡ map f' (filter p xs)
map_agree f f' p [] same = refl
map_agree {X} f f' p (x ∷ xs) same = at (p x) refl (map_agree f f' p xs same)
  where
    at : (b : Bool) → p x ≡ b → map f (filter p xs) ≡ map f' (filter p xs)
        → map f (cond b (x ∷ filter p xs) (filter p xs)) ≡ map f' (cond b (x ∷ filter p xs) (filter p xs))
    at true passes rest = let one : X → List X → List X = λ y ys. y ∷ ys in ap₂ one (same x passes) rest
    at false fails rest = rest

module _ {L : Type 0} (app : App L) where
  -- what fails at a node, by what it sees
  abbrev seen_faults : ℕ → ℕ → Neighbour L → List (Neighbour L) → List LinkFault
  seen_faults K m own near =
      let t : tree.LocalView = record { id = own.id; bound = K; own = own.tree; near = near_trees near } in
      fault_of own.id own.id Tree (first_enabled (1 ∷ 2 ∷ 3 ∷ 4 ∷ []) (enabled_of (tree_table t t.near)))
      ++ flat_map (link_faults app K m own) near

  faults-seen : (c : Configuration L) (i : ℕ) → node_faults app c i
      ≡ seen_faults (node_bound c.graph) c.modulus (near_of app c i) (map (near_of app c) (neighbours_of c.graph i))
  faults-seen c i =
      ap (λ (v : tree.LocalView). fault_of i i Tree (first_enabled (1 ∷ 2 ∷ 3 ∷ 4 ∷ []) (enabled_of (tree_table v v.near)))
      ++ flat_map (link_faults app (node_bound c.graph) c.modulus (near_of app c i))
      (map (near_of app c) (neighbours_of c.graph i)))
      (sym (tree_view-is app c i))

  -- around a node d is as c is
  pub record IsSameAround (c d : Configuration L) (j : ℕ) : Type 0 where
    pub ids : d.graph.ids ≡ c.graph.ids
    pub modulus : d.modulus ≡ c.modulus
    pub links : (k : ℕ) → are_linked d.graph j k ≡ are_linked c.graph j k
    pub own : near_of app d j ≡ near_of app c j
    pub near : (k : ℕ) → are_linked c.graph j k ≡ true → near_of app d k ≡ near_of app c k

  module _ (c d : Configuration L) (j : ℕ) where
    same_near : IsSameAround c d j
        → map (near_of app d) (neighbours_of d.graph j) ≡ map (near_of app c) (neighbours_of c.graph j)
    same_near same =
        ap (λ ids. map (near_of app d) (filter (are_linked d.graph j) ids)) same.ids
        ∙ ap (map (near_of app d)) (filter_agree (are_linked d.graph j) (are_linked c.graph j) same.links c.graph.ids)
        ∙ map_agree (near_of app d) (near_of app c) (are_linked c.graph j) c.graph.ids same.near

    same_faults : IsSameAround c d j → node_faults app d j ≡ node_faults app c j
    same_faults same =
        faults-seen d j
        ∙ ap (λ ids. seen_faults (length ids) d.modulus (near_of app d j)
        (map (near_of app d) (neighbours_of d.graph j))) same.ids
        ∙ ap (λ m. seen_faults (node_bound c.graph) m (near_of app d j)
        (map (near_of app d) (neighbours_of d.graph j))) same.modulus
        ∙ ap₂ (seen_faults (node_bound c.graph) c.modulus) same.own (same_near same)
        ∙ sym (faults-seen c j)

    same_failing : is_node d.graph j ≡ is_node c.graph j → (is_node c.graph j ≡ true → IsSameAround c d j)
        → failing app d j ≡ failing app c j
    unfolding failing
    same_failing node around =
        ap (λ b. cond b (node_faults app d j) []) node ∙ at (is_node c.graph j) refl
      where
        at : (b : Bool) → is_node c.graph j ≡ b → cond b (node_faults app d j) [] ≡ cond b (node_faults app c j) []
        at true up = same_faults (around up)
        at false down = refl

  -- ---- a write at another node

  module _ (c : Configuration L) (i j : ℕ) (other : j ≢ i) (stranger : are_linked c.graph j i ≡ false) where
    written_elsewhere : (d : Configuration L) → IsWrittenAt app c d i → failing app d j ≡ failing app c j
    written_elsewhere d wrote =
        same_failing c d j (ap (λ (g : Graph). is_node g j) wrote.graph)
        (λ up. record {
          ids = ap (λ (g : Graph). g.ids) wrote.graph;
          modulus = wrote.modulus;
          links = λ k. ap (λ (g : Graph). are_linked g j k) wrote.graph;
          own = wrote.near j other;
          near = λ k linked. wrote.near k
              (λ same. false≢true (sym stranger ∙ ap (are_linked c.graph j) (sym same) ∙ linked));
        })

  -- ---- another graph of the same identifiers

  module _ (c : Configuration L) (graph : IsGraph c.graph) (shaped : IsShaped c) where
    module _ (g : Graph) (same : g.ids ≡ c.graph.ids) where
      -- a node of before has what it had
      near_stays : (k : ℕ) → is_node c.graph k ≡ true → near_of app (with_topology app c g) k ≡ near_of app c k
      near_stays k up =
          let there : Contains c.graph.ids k = graph.within k (Contains-has c.graph.nodes k up) in
          let kept : comes_up c.graph g k ≡ false =
          ap (λ b. is_node g k && not b) up ∙ and-false (is_node g k) in
          same_neighbour k k _ _ _ _ _ _ refl
          (tree_there app c g same shaped k there ∙ ap (λ b. cond b (claimed k) (tree_of c k)) kept)
          (wave_there app c g same shaped k there
          ∙ ap (λ b. cond b (record { phase = Normal; session = 0 }) (wave_of c k)) kept)
          (local_there app c g same shaped k there ∙ ap (λ b. cond b (app.start g k) (local_of app c k)) kept)

      graph_elsewhere : (j : ℕ) → is_node g j ≡ is_node c.graph j
          → ((k : ℕ) → are_linked g j k ≡ are_linked c.graph j k)
          → failing app (with_topology app c g) j ≡ failing app c j
      graph_elsewhere j node links =
          same_failing c (with_topology app c g) j node
          (λ up. record {
            ids = same;
            modulus = refl;
            links = links;
            own = near_stays j up;
            near = λ k linked. near_stays k
                (has-Contains c.graph.nodes k (graph.ends k j (graph.symmetric k j ∙ linked)));
          })

    module _ (a b j : ℕ) (away : (a == j) ≡ false) (apart : (b == j) ≡ false) where
      unjoined : (k : ℕ) → joins j k (a, b) ≡ false
      unjoined k = ap₂ (λ s t. (s && (b == k)) || ((a == k) && t)) away apart ∙ and-false (a == k)

      pub down_elsewhere : failing app (with_topology app c (without_link c.graph a b)) j ≡ failing app c j
      down_elsewhere =
          graph_elsewhere (without_link c.graph a b) refl j refl
          (λ k. has_fewer c.graph.links a b (j, k) ∙ ap (λ t. are_linked c.graph j k && not t) (unjoined k)
          ∙ and-true (are_linked c.graph j k))

      pub up_elsewhere : failing app (with_topology app c (with_link c.graph a b)) j ≡ failing app c j
      up_elsewhere =
          graph_elsewhere (with_link c.graph a b) refl j refl
          (λ k. has_more c.graph.links a b (j, k) ∙ ap (λ t. are_linked c.graph j k || t) (unjoined k)
          ∙ or-false (are_linked c.graph j k))

    module _ (i j : ℕ) (other : (j == i) ≡ false) where
      pub off_elsewhere : are_linked c.graph j i ≡ false
          → failing app (with_topology app c (without_node c.graph i)) j ≡ failing app c j
      off_elsewhere stranger =
          graph_elsewhere (without_node c.graph i) refl j
          (node_left c.graph i j ∙ ap (λ b. not b && is_node c.graph j) other)
          (λ k. linked_left c.graph i j k
          ∙ ap (λ b. are_linked c.graph j k && (not b && not (k == i))) other
          ∙ at k (k == i) refl)
        where
          at : (k : ℕ) (b : Bool) → (k == i) ≡ b → (are_linked c.graph j k && not b) ≡ are_linked c.graph j k
          at k true is =
              let linked : are_linked c.graph j k ≡ false = ap (are_linked c.graph j) (eqb-true k i is) ∙ stranger in
              and-false (are_linked c.graph j k) ∙ sym linked
          at k false is = and-true (are_linked c.graph j k)

      pub on_elsewhere : failing app (with_topology app c (with_node c.graph i)) j ≡ failing app c j
      on_elsewhere =
          graph_elsewhere (with_node c.graph i) refl j
          (node_joined c.graph i j ∙ ap (λ b. (is_node c.graph j || b) && has c.graph.ids j) other
          ∙ at (is_node c.graph j) refl)
          (λ k. refl)
        where
          at : (b : Bool) → is_node c.graph j ≡ b → ((b || false) && has c.graph.ids j) ≡ b
          at true up = has-Contains c.graph.ids j (graph.within j (Contains-has c.graph.nodes j up))
          at false down = refl

  -- ---- entries

  module _ (from_text : List ℕ → Option L) (c : Configuration L) (graph : IsGraph c.graph) (shaped : IsShaped c) (j : ℕ)
    where
      among_linked : (i : ℕ) → has (neighbours_of c.graph i) j ≡ are_linked c.graph i j
      among_linked i = has-filter (are_linked c.graph i) c.graph.ids j ∙ at (are_linked c.graph i j) refl
        where
          at : (b : Bool) → are_linked c.graph i j ≡ b → (b && has c.graph.ids j) ≡ b
          at true linked =
              has-Contains c.graph.ids j (graph.within j (graph.ends j i (graph.symmetric j i ∙ linked)))
          at false linked = refl

      -- what is none of the nodes that an entry at i concerns
      record IsElsewhere (i : ℕ) (new : List ℕ) : Type 0 where
        node : (i == j) ≡ false
        linked : are_linked c.graph i j ≡ false
        none : has new j ≡ false

      elsewhere : (i : ℕ) (new : List ℕ) → has (i ∷ (neighbours_of c.graph i ++ new)) j ≡ false → IsElsewhere i new
      elsewhere i new e =
          let first = or_parts (i == j) (has (neighbours_of c.graph i ++ new) j) e in
          let rest = or_parts (has (neighbours_of c.graph i) j) (has new j)
          (sym (has_append (neighbours_of c.graph i) new j) ∙ first.1) in
          record { node = first.0; linked = sym (among_linked i) ∙ rest.0; none = rest.1 }

      module _ (i : ℕ) (new : List ℕ) (away : IsElsewhere i new) where
        other : j ≢ i
        other same = false≢true (sym away.node ∙ eq-eqb i j (sym same))

        other_test : (j == i) ≡ false
        other_test = ne_eqb j i other

        stranger : are_linked c.graph j i ≡ false
        stranger = graph.symmetric j i ∙ away.linked

      -- a write at a node that concerns others
      wrote_elsewhere : (i : ℕ) (d : Configuration L) → IsWrittenAt app c d i
          → has (i ∷ (neighbours_of c.graph i ++ [])) j ≡ false → failing app d j ≡ failing app c j
      wrote_elsewhere i d wrote e =
          let away = elsewhere i [] e in written_elsewhere c i j (other i [] away) (stranger i [] away) d wrote

      damaged_elsewhere : (f : Fault) → first_of (refusals from_text c f) ≡ None
          → has (concerned c.graph (Disturbed f)) j ≡ false → failing app (damaged app from_text c f) j ≡ failing app c j
      damaged_elsewhere (SetTree at regs) none e =
          wrote_elsewhere at _ (damaged_written app from_text c (SetTree at regs) at refl) e
      damaged_elsewhere (SetWave at regs) none e =
          wrote_elsewhere at _ (damaged_written app from_text c (SetWave at regs) at refl) e
      damaged_elsewhere (SetLocal at text) none e =
          wrote_elsewhere at _ (damaged_written app from_text c (SetLocal at text) at refl) e
      damaged_elsewhere (LinkDown a b) none e =
          let away = elsewhere a [] e in
          let linked : are_linked c.graph a b ≡ true =
          not-false (are_linked c.graph a b) (none_holds (refusals from_text c (LinkDown a b)) none).1.1.0 in
          let apart : b ≢ j = λ same. false≢true (sym away.linked ∙ ap (are_linked c.graph a) (sym same) ∙ linked) in
          down_elsewhere c graph shaped a b j away.node (ne_eqb b j apart)
      damaged_elsewhere (LinkUp a b) none e =
          let away = elsewhere a (b ∷ []) e in
          up_elsewhere c graph shaped a b j away.node (or_parts (b == j) false away.none).0
      damaged_elsewhere (NodeDown at) none e =
          let away = elsewhere at [] e in
          off_elsewhere c graph shaped at j (other_test at [] away) (stranger at [] away)
      damaged_elsewhere (NodeUp at) none e =
          let away = elsewhere at [] e in on_elsewhere c graph shaped at j (other_test at [] away)

      injected_elsewhere : (f : Fault) (after : Configuration L) → left_by_fault (injected app from_text c f) ≡ Some after
          → has (concerned c.graph (Disturbed f)) j ≡ false → failing app after j ≡ failing app c j
      unfolding injected
      injected_elsewhere f after is e = by_refusal (first_of (refusals from_text c f)) refl is
        where
          by_refusal : (o : Option FaultRefusal) → first_of (refusals from_text c f) ≡ o
              → left_by_fault ((elim o as (λ _. Configuration L → Result (Configuration L) FaultRefusal)
              [ None ↦ λ d. Ok d | Some refusal ↦ λ d. Err refusal ]) (damaged app from_text c f)) ≡ Some after
              → failing app after j ≡ failing app c j
          by_refusal None none is =
              let same : damaged app from_text c f ≡ after = cc in
              subst (λ d. failing app d j ≡ failing app c j) same (damaged_elsewhere f none e)
          by_refusal (Some r) some is = absurd (cc)

      pub entered_elsewhere : (entry : Entry) (after : Configuration L) → entered app from_text c entry ≡ Some after
          → has (concerned c.graph entry) j ≡ false → failing app after j ≡ failing app c j
      entered_elsewhere (Step e) after is none =
          wrote_elsewhere (event_node e) after (entered_written app from_text c (Step e) after (event_node e) refl is) none
      entered_elsewhere (Disturbed f) after is none = injected_elsewhere f after is none
