-- The configuration that nodes and links name.
use Rattle.std.proofs.Common.{◌≡◌, ◌≢◌, ℕ, Bool, true, false, not, ◌&&◌, ◌||◌, ◌==◌, cond, List, [], ◌∷◌, filter}
use Rattle.std.proofs.Common.{Contains, refl, sym, ap, ap₂, ◌∙◌, subst, true≢false, ⊎_elim, slice_index_or, ◌++◌}
use Rattle.std.specs.List.{All, list_any}
use Rattle.std.proofs.lemmas.Bool.{eq-eqb, eqb-true, or_cases, or_right}
use Rattle.std.proofs.lemmas.List.Elements.{All-cons, All-head, All-nil, All-tail}
use Rattle.std.proofs.lemmas.List.Folds.{list_any_at}
use Rattle.app_interface.specs.Application.{App}
use Rattle.topology.specs.Building.{joins}
use Rattle.topology.specs.Faults.{ends_of}
use Rattle.topology.specs.Graph.{Graph, IsGraph, IsNode, are_linked, has, is_node}
use Rattle.topology.proofs.Membership.{Contains-has, has-Contains, has-filter}
use Rattle.reset_model.specs.Configuration.{Configuration, IsShaped}
use Rattle.reset_model.proofs.FirstFound.{find-none}
use Rattle.reset_model.proofs.Positions.{value_at-put_at, value_at-put_at_other}
use Rattle.reset_model.proofs.Shapes.{length-put_at}
use Rattle.snapshots.specs.Items.{has_node, links_in, nodes_in}
use Rattle.snapshots.specs.Named.{AreNamed, Holds, links_by}
use Rattle.snapshots.specs.Parts.{AreDistinct, AreEnds, AreKept, ArePossible, with_state, with_states, without_nodes}
use Rattle.snapshots.specs.declared.item.Item.{Item}
use Rattle.snapshots.specs.declared.item.NodeState.{NodeState}
use Rattle.snapshots.specs.declared.reading.Reading.{Reading}
use Rattle.snapshots.proofs.Linked.{dropped, left_ids, left_links, left_nodes, of_test}
use Rattle.snapshots.proofs.Possible.{not-false_is, or_parts}

-- ---- the ends of joined links

both_there : (p q r s h k rest : Bool) → (((p && q) || (r && s)) || rest) ≡ true
    → (rest ≡ true → (h ≡ true) × (k ≡ true)) → ((p || (s || h)) ≡ true) × ((r || (q || k)) ≡ true)
both_there true true true s h k rest e more = (refl, refl)
both_there true true false s h k rest e more = (refl, refl)
both_there true false true s h k rest e more = (refl, refl)
both_there true false false s h k rest e more = (refl, (more e).1)
both_there false q true true h k rest e more = (refl, refl)
both_there false q true false h k rest e more = ((more e).0, refl)
both_there false q false s h k rest e more = (or_right s h (more e).0, or_right q k (more e).1)

joined_ends : (a b : ℕ) (links : List (ℕ × ℕ)) → list_any (joins a b) links ≡ true
    → (has (ends_of links) a ≡ true) × (has (ends_of links) b ≡ true)
joined_ends a b [] e = absurd (true≢false (sym e))
joined_ends a b (l ∷ links) e =
    both_there (l.0 == a) (l.1 == b) (l.0 == b) (l.1 == a) (has (ends_of links) a) (has (ends_of links) b)
    (list_any (joins a b) links) e (joined_ends a b links)

module _ {L : Type 0} where
  -- an identifier that a node has is one of those that the nodes have
  pub named_known : (g : Graph) (nodes : List (NodeState L)) → All (λ node. has g.ids node.id ≡ true) nodes → (i : ℕ)
      → has_node nodes i ≡ true → has g.ids i ≡ true
  named_known g [] known i e = absurd (true≢false (sym e))
  named_known g (node ∷ nodes) known i e =
      let P : NodeState L → Type 0 = λ n. has g.ids n.id ≡ true in
      ⊎_elim
      (λ here. subst (λ j. has g.ids j ≡ true) (eqb-true node.id i here) (All-head P node nodes known))
      (λ later. named_known g nodes (All-tail P node nodes known) i later)
      (or_cases (node.id == i) (has_node nodes i) e)

  module _ (g t : Graph) (nodes : List (NodeState L)) (known : All (λ node. has g.ids node.id ≡ true) nodes) where
    -- the identifiers that no node has
    abbrev pub unnamed : List ℕ
    unnamed = filter (λ i. not (has_node nodes i)) g.ids

    unnamed_is : (i : ℕ) → has unnamed i ≡ (not (has_node nodes i) && has g.ids i)
    unnamed_is i = has-filter (λ j. not (has_node nodes j)) g.ids i

    pub named_nodes : t.nodes ≡ g.ids → (i : ℕ) → is_node (without_nodes t unnamed) i ≡ has_node nodes i
    named_nodes up i =
        left_nodes t unnamed i
        ∙ ap₂ (λ h n. h && not n) (ap (λ ns. has ns i) up) (unnamed_is i)
        ∙ of_test (has_node nodes i) (has g.ids i) (named_known g nodes known i)

    stays : (i : ℕ) → has g.ids i ≡ true → not (has unnamed i) ≡ has_node nodes i
    stays i there = ap not (unnamed_is i) ∙ dropped (has_node nodes i) (has g.ids i) there

    end_named : (links : List (ℕ × ℕ)) → AreEnds nodes links → (i : ℕ) → has (ends_of links) i ≡ true
        → has_node nodes i ≡ true
    end_named links ends i there =
        not-false_is (has_node nodes i) (find-none (λ j. not (has_node nodes j)) (ends_of links) i ends there)

    -- where the topology has the links that were listed, all of them stay
    pub listed_links : (links : List (ℕ × ℕ)) → AreEnds nodes links
        → ((a b : ℕ) → are_linked t a b ≡ list_any (joins a b) links) → (a b : ℕ)
        → are_linked (without_nodes t unnamed) a b ≡ list_any (joins a b) links
    listed_links links ends linked a b =
        left_links t unnamed a b
        ∙ ap (λ l. l && (not (has unnamed a) && not (has unnamed b))) (linked a b)
        ∙ at (list_any (joins a b) links) refl
      where
        at : (l : Bool) → list_any (joins a b) links ≡ l → (l && (not (has unnamed a) && not (has unnamed b))) ≡ l
        at false e = refl
        at true e =
            let there = joined_ends a b links e in
            let a_up = end_named links ends a there.0 in
            let b_up = end_named links ends b there.1 in
            ap₂ (λ p q. p && q) (stays a (named_known g nodes known a a_up) ∙ a_up)
            (stays b (named_known g nodes known b b_up) ∙ b_up)

    -- where it has those of the graph, those stay that join nodes
    pub own_links : IsGraph g → ((a b : ℕ) → are_linked t a b ≡ are_linked g a b) → (a b : ℕ)
        → are_linked (without_nodes t unnamed) a b ≡ (are_linked g a b && (has_node nodes a && has_node nodes b))
    own_links are linked a b =
        left_links t unnamed a b
        ∙ ap (λ l. l && (not (has unnamed a) && not (has unnamed b))) (linked a b)
        ∙ at (are_linked g a b) refl
      where
        end : (i j : ℕ) → are_linked g i j ≡ true → has g.ids i ≡ true
        end i j e = has-Contains g.ids i (are.within i (are.ends i j e))

        at : (l : Bool) → are_linked g a b ≡ l
            → (l && (not (has unnamed a) && not (has unnamed b))) ≡ (l && (has_node nodes a && has_node nodes b))
        at false e = refl
        at true e =
            ap₂ (λ p q. p && q) (stays a (end a b e)) (stays b (end b a (sym (are.symmetric a b) ∙ e)))

  -- ---- states that are put

  pub graph_kept : (c : Configuration L) (nodes : List (NodeState L)) → (with_states c nodes).graph ≡ c.graph
  graph_kept c [] = refl
  graph_kept c (node ∷ nodes) = graph_kept c nodes

  pub modulus_kept : (c : Configuration L) (nodes : List (NodeState L)) → (with_states c nodes).modulus ≡ c.modulus
  modulus_kept c [] = refl
  modulus_kept c (node ∷ nodes) = modulus_kept c nodes

  pub shape_kept : (c : Configuration L) (nodes : List (NodeState L)) → IsShaped c → IsShaped (with_states c nodes)
  shape_kept c [] shaped = shaped
  shape_kept c (node ∷ nodes) shaped =
      let before = with_states c nodes in
      let was = shape_kept c nodes shaped in
      record {
        modulus = was.modulus;
        trees = length-put_at before.graph.ids before.trees node.id node.tree was.trees;
        waves = length-put_at before.graph.ids before.waves node.id node.wave was.waves;
        locals = length-put_at before.graph.ids before.locals node.id node.local was.locals;
      }

  module _ (app : App L) where
    holds_own : (c : Configuration L) (node : NodeState L) → IsShaped c → Contains c.graph.ids node.id
        → Holds app (with_state c node) node
    holds_own c node shaped there = (
      value_at-put_at _ c.graph.ids c.trees node.id node.tree shaped.trees there,
      value_at-put_at _ c.graph.ids c.waves node.id node.wave shaped.waves there,
      value_at-put_at _ c.graph.ids c.locals node.id node.local shaped.locals there,
    )

    holds_other : (c : Configuration L) (node other : NodeState L) → other.id ≢ node.id → Holds app c other
        → Holds app (with_state c node) other
    holds_other c node other apart held = (
      value_at-put_at_other _ c.graph.ids c.trees node.id other.id node.tree apart ∙ held.0,
      value_at-put_at_other _ c.graph.ids c.waves node.id other.id node.wave apart ∙ held.1,
      value_at-put_at_other _ c.graph.ids c.locals node.id other.id node.local apart ∙ held.2,
    )

    holds_others : (c : Configuration L) (node : NodeState L) (nodes : List (NodeState L))
        → has_node nodes node.id ≡ false → All (Holds app c) nodes → All (Holds app (with_state c node)) nodes
    holds_others c node [] new held = All-nil (Holds app (with_state c node))
    holds_others c node (other ∷ nodes) new held =
        let parts = or_parts (other.id == node.id) (has_node nodes node.id) new in
        All-cons (Holds app (with_state c node)) other nodes
        (holds_other c node other
        (λ same. true≢false (sym (eq-eqb other.id node.id same) ∙ parts.0))
        (All-head (Holds app c) other nodes held))
        (holds_others c node nodes parts.1 (All-tail (Holds app c) other nodes held))

    -- each node has what was put there
    pub holds_all : (c : Configuration L) (nodes : List (NodeState L)) → IsShaped c
        → All (λ node. has c.graph.ids node.id ≡ true) nodes → AreDistinct nodes → All (Holds app (with_states c nodes)) nodes
    holds_all c [] shaped known apart = All-nil (Holds app c)
    holds_all c (node ∷ nodes) shaped known apart =
        let P : NodeState L → Type 0 = λ n. has c.graph.ids n.id ≡ true in
        let before = with_states c nodes in
        let there : Contains before.graph.ids node.id =
        subst (λ h. Contains h.ids node.id) (sym (graph_kept c nodes))
        (Contains-has c.graph.ids node.id (All-head P node nodes known)) in
        All-cons (Holds app (with_state before node)) node nodes
        (holds_own before node (shape_kept c nodes shaped) there)
        (holds_others before node nodes apart.0
        (holds_all c nodes shaped (All-tail P node nodes known) apart.1))

  -- ---- all of it

  pub with_last : (c : Configuration L) (nodes : List (NodeState L)) (node : NodeState L)
      → with_states c (nodes ++ node ∷ []) ≡ with_states (with_state c node) nodes
  with_last c [] node = refl
  with_last c (first ∷ nodes) node = ap (λ d. with_state d first) (with_last c nodes node)

  -- the nodes are up in the graph without the others
  pub all_up : (g t : Graph) (nodes : List (NodeState L)) (known : All (λ node. has g.ids node.id ≡ true) nodes)
      → t.nodes ≡ g.ids
      → All (λ node. IsNode (without_nodes t (filter (λ i. not (has_node nodes i)) g.ids)) node.id) nodes
  all_up g t nodes known up k d within =
      let node = slice_index_or nodes k d in
      let left = without_nodes t (filter (λ i. not (has_node nodes i)) g.ids) in
      Contains-has left.nodes node.id
      (named_nodes g t nodes known up node.id
      ∙ list_any_at (λ n. n.id == node.id) nodes k d within (eq-eqb node.id node.id refl))

  abbrev unnamed_of : Graph → List (NodeState L) → List ℕ
  unnamed_of g nodes = filter (λ i. not (has_node nodes i)) g.ids

  links_named : (g t : Graph) (items : List (Item L)) (reading : Reading L) → IsGraph g
      → (known : All (λ node. has g.ids node.id ≡ true) reading.nodes.items)
      → AreEnds reading.nodes.items reading.links.items
      → ((a b : ℕ) → are_linked t a b
      ≡ cond reading.lists_links (list_any (joins a b) reading.links.items) (are_linked g a b))
      → AreKept items reading → (a b : ℕ) (listed : Bool) → reading.lists_links ≡ listed
      → are_linked (without_nodes t (unnamed_of g reading.nodes.items)) a b ≡ links_by g items a b
  links_named g t items reading are known ends linked kept a b true is =
      let own = are_linked g a b && (has_node (nodes_in items) a && has_node (nodes_in items) b) in
      listed_links g t reading.nodes.items known reading.links.items ends
      (λ x y.
      linked x y ∙ ap (λ l. cond l (list_any (joins x y) reading.links.items) (are_linked g x y)) is) a b
      ∙ ap (list_any (joins a b)) kept.links
      ∙ ap (λ l. cond l (list_any (joins a b) (links_in items)) own) (sym is ∙ kept.list_links)
  links_named g t items reading are known ends linked kept a b false is =
      let own = are_linked g a b && (has_node (nodes_in items) a && has_node (nodes_in items) b) in
      own_links g t reading.nodes.items known are
      (λ x y.
      linked x y ∙ ap (λ l. cond l (list_any (joins x y) reading.links.items) (are_linked g x y)) is) a b
      ∙ ap (λ ns. are_linked g a b && (has_node ns a && has_node ns b)) kept.nodes
      ∙ ap (λ l. cond l (list_any (joins a b) (links_in items)) own) (sym is ∙ kept.list_links)

  pub named_by : (app : App L) (g : Graph) (n : ℕ) (items : List (Item L)) (reading : Reading L) (t : Graph)
      (c d : Configuration L) → IsGraph g → ArePossible g reading.nodes.items
      → AreEnds reading.nodes.items reading.links.items → t.ids ≡ g.ids → t.nodes ≡ t.ids
      → ((a b : ℕ) → are_linked t a b
      ≡ cond reading.lists_links (list_any (joins a b) reading.links.items) (are_linked g a b))
      → c.graph ≡ without_nodes t (filter (λ i. not (has_node reading.nodes.items i)) g.ids) → c.modulus ≡ n
      → IsGraph c.graph → IsShaped c → d ≡ with_states c reading.nodes.items → AreKept items reading
      → AreNamed app g n items d
  named_by app g n items reading t c d are can ends t_ids t_up linked graph counted c_are shaped put kept =
      let nodes = reading.nodes.items in
      let whole = graph_kept c nodes ∙ graph in
      let c_ids : c.graph.ids ≡ g.ids = ap (λ h. h.ids) graph ∙ left_ids t (unnamed_of g nodes) ∙ t_ids in
      subst (AreNamed app g n items) (sym put)
      (record {
        as_graph = subst IsGraph (sym (graph_kept c nodes)) c_are;
        shaped = shape_kept c nodes shaped;
        modulus = modulus_kept c nodes ∙ counted;
        ids = ap (λ h. h.ids) (graph_kept c nodes) ∙ c_ids;
        up = λ i.
            ap (λ h. is_node h i) whole
            ∙ named_nodes g t nodes can.known (t_up ∙ t_ids) i
            ∙ ap (λ ns. has_node ns i) kept.nodes;
        links = λ a b.
            ap (λ h. are_linked h a b) whole
            ∙ links_named g t items reading are can.known ends linked kept a b reading.lists_links refl;
        nodes = subst (All (Holds app (with_states c nodes))) kept.nodes
            (holds_all app c nodes shaped
            (subst (λ is. All (λ node. has is node.id ≡ true) nodes) (sym c_ids) can.known) can.distinct);
      })
