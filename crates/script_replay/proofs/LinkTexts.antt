-- The lines of the links of a graph, and the text of a configuration, which ends with them.
use Rattle.std.specs.Prelude.{codes, slice_index}
use Rattle.std.proofs.Common.{◌≡◌, ◌≢◌, ℕ, ◌<◌, Bool, true, false, ◌&&◌, cond, nat_eq, nat_lt, if◌then◌else◌, ◌⊎◌, inl}
use Rattle.std.proofs.Common.{inr, List, [], ◌∷◌, ◌++◌, filter, map, refl, sym, ap, ap₂, ◌∙◌, true≢false}
use Rattle.std.specs.FinSet as set
use Rattle.std.specs.List.{flat_map}
use Rattle.std.proofs.lemmas.Bool.{cases_order, lt-ltb}
use Rattle.std.proofs.lemmas.Bool.Decides.{eqb_tells}
use Rattle.std.proofs.lemmas.List.Folds.{flat_map-map}
use Rattle.topology.specs.Graph.{Graph, IsGraph, IsNode, are_linked, has, neighbours_of, pair_cmp}
use Rattle.topology.proofs.Membership.{has-Contains, has-filter}
use Rattle.topology.proofs.RowLemmas.{pair_antisymmetric, pair_total}
use Rattle.reset_model.specs.Configuration.{Configuration}
use Rattle.applications.specs.Meaning.{Meaning}
use Rattle.script_replay.specs.Output.{link_line, links_of, links_text, shown, snapshot_text}
use Rattle.script_replay.specs.Parts.{line_from, links_from}
use Rattle.script_replay.proofs.FlatMaps.{flat_map_twice}

-- ---- the links of a node

-- the lines of the links with greater nodes, neighbour by neighbour
greater_lines : (i : ℕ) (js : List ℕ)
    → flat_map link_line (map (λ j. (i, j)) (filter (nat_lt i) js)) ≡ flat_map (line_from i) js
greater_lines i [] = refl
greater_lines i (j ∷ js) = first (nat_lt i j) ∙ ap (λ l. line_from i j ++ l) (greater_lines i js)
  where
    first : (b : Bool)
        → flat_map link_line (map (λ j. (i, j)) (cond b (j ∷ filter (nat_lt i) js) (filter (nat_lt i) js)))
        ≡ (if b then link_line (i, j) else []) ++ flat_map link_line (map (λ j. (i, j)) (filter (nat_lt i) js))
    first true = refl
    first false = refl

-- the same of neighbours by their indexes
pub lines_from : (g : Graph) (i : ℕ) (near : List ℕ) → map (λ n. slice_index g.ids n) near ≡ neighbours_of g i
    → flat_map link_line (links_from g i) ≡ flat_map (λ n. line_from i (slice_index g.ids n)) near
lines_from g i near are =
    greater_lines i (neighbours_of g i) ∙ ap (flat_map (line_from i)) (sym are)
    ∙ flat_map-map (line_from i) (λ n. slice_index g.ids n) near

-- ---- those of all nodes

pub lines_of_links : (g : Graph)
    → flat_map link_line (links_of g) ≡ flat_map (λ i. flat_map link_line (links_from g i)) g.nodes
lines_of_links g = flat_map_twice link_line (links_from g) g.nodes

-- ---- whether there is a link

none_pass : (p : ℕ → Bool) (xs : List ℕ) → ((x : ℕ) → p x ≡ false) → filter p xs ≡ []
none_pass p [] none = refl
none_pass p (x ∷ xs) none = ap (λ b. cond b (x ∷ filter p xs) (filter p xs)) (none x) ∙ none_pass p xs none

no_pieces : {X Y : Type 0} (f : X → List Y) (xs : List X) → ((x : X) → f x ≡ []) → flat_map f xs ≡ []
no_pieces f [] none = refl
no_pieces f (x ∷ xs) none = ap₂ (λ a b. a ++ b) (none x) (no_pieces f xs none)

empty_parts : {X : Type 0} (xs ys : List X) → xs ++ ys ≡ [] → (xs ≡ []) × (ys ≡ [])
empty_parts [] ys none = (refl, none)
empty_parts (x ∷ xs) ys none = absurd (cc)

empty_map : {X Y : Type 0} (f : X → Y) (xs : List X) → map f xs ≡ [] → xs ≡ []
empty_map f [] none = refl
empty_map f (x ∷ xs) none = absurd (cc)

empty_piece : {Y : Type 0} (f : ℕ → List Y) (xs : List ℕ) (x : ℕ) → has xs x ≡ true → flat_map f xs ≡ [] → f x ≡ []
empty_piece f [] x there none = absurd (true≢false (sym there))
empty_piece f (y ∷ ys) x there none =
    let parts = empty_parts (f y) (flat_map f ys) none in
    here (eqb_tells y x) parts.0 (λ rest. empty_piece f ys x rest parts.1)
  where
    here : ((nat_eq y x ≡ true) × (y ≡ x)) ⊎ ((nat_eq y x ≡ false) × (y ≢ x)) → f y ≡ []
        → (has ys x ≡ true → f x ≡ []) → f x ≡ []
    here (inl same) first later = ap f (sym same.1) ∙ first
    here (inr other) first later = later (rw other.0 at there)

module _ (g : Graph) where
  -- a graph without links has none to be written
  pub no_links : set.len g.links ≡ 0 → links_of g ≡ []
  no_links none =
      let unlinked : (i j : ℕ) → are_linked g i j ≡ false =
      λ i j. ap (λ s. set.contains s (i, j)) (set.empty_of_len g.links none) ∙ set.contains-empty pair_cmp (i, j) in
      no_pieces (links_from g) g.nodes
      (λ i. ap (λ js. map (λ j. (i, j)) (filter (nat_lt i) js)) (none_pass (are_linked g i) g.ids (unlinked i)))

  module _ (graph : IsGraph g) (none : links_of g ≡ []) where
    rising_unlinked : (i j : ℕ) → i < j → are_linked g i j ≡ true → ⊥
    rising_unlinked i j less linked =
        let back : are_linked g j i ≡ true = graph.symmetric j i ∙ linked in
        let node : has g.nodes i ≡ true = has-Contains g.nodes i (graph.ends i j linked) in
        let other : has g.ids j ≡ true = has-Contains g.ids j (graph.within j (graph.ends j i back)) in
        let near = neighbours_of g i in
        let greater : filter (nat_lt i) near ≡ [] =
        empty_map (λ j. (i, j)) (filter (nat_lt i) near) (empty_piece (links_from g) g.nodes i node none) in
        let there : has (filter (nat_lt i) near) j ≡ true =
        has-filter (nat_lt i) near j
        ∙ ap₂ (λ a b. a && b) (lt-ltb i j less)
        (has-filter (are_linked g i) g.ids j ∙ ap₂ (λ a b. a && b) linked other) in
        true≢false (sym there ∙ ap (λ js. has js j) greater)

    unlinked : (i j : ℕ) (b : Bool) → are_linked g i j ≡ b → b ≡ false
    unlinked i j false is = refl
    unlinked i j true is = absurd (apart (cases_order i j))
      where
        apart : (i ≡ j) ⊎ ((i < j) ⊎ (j < i)) → ⊥
        apart (inl same) = graph.irreflexive i (ap (are_linked g i) same ∙ is)
        apart (inr (inl less)) = rising_unlinked i j less is
        apart (inr (inr more)) = rising_unlinked j i more (graph.symmetric j i ∙ is)

    no_pairs : set.len g.links ≡ 0
    no_pairs =
        let empty : g.links ≡ set.empty =
        set.same_set pair_total pair_antisymmetric g.links set.empty
        (λ q. unlinked q.0 q.1 (are_linked g q.0 q.1) refl ∙ sym (set.contains-empty pair_cmp q)) in
        ap set.len empty ∙ set.len-empty pair_cmp

  -- and one with links has some
  some_links : IsGraph g → set.len g.links ≢ 0 → links_of g ≢ []
  some_links graph some none = some (no_pairs graph none)

-- the lines of links, where there are some
lines_of_some : (links : List (ℕ × ℕ)) → links ≢ [] → links_text links ≡ flat_map link_line links
lines_of_some [] some = absurd (some refl)
lines_of_some (link ∷ links) some = refl

pub linked_text : (g : Graph) → IsGraph g → set.len g.links ≢ 0
    → links_text (links_of g) ≡ flat_map link_line (links_of g)
linked_text g graph some = lines_of_some (links_of g) (some_links g graph some)

pub unlinked_text : (g : Graph) → set.len g.links ≡ 0 → links_text (links_of g) ≡ links_text []
unlinked_text g none = ap links_text (no_links g none)

-- ---- the neighbours of what is no node

pub no_neighbours : (g : Graph) → IsGraph g → (i : ℕ) → (IsNode g i → ⊥) → neighbours_of g i ≡ []
no_neighbours g graph i strange =
    none_pass (are_linked g i) g.ids (λ j. unlinked j (are_linked g i j) refl)
  where
    unlinked : (j : ℕ) (b : Bool) → are_linked g i j ≡ b → b ≡ false
    unlinked j false is = refl
    unlinked j true is = absurd (strange (graph.ends i j is))

-- ---- the text of a configuration

pub snapshot_text-is : {L : Type 0} (m : Meaning L) (c : Configuration L) (g : Graph) → g ≡ c.graph
    → snapshot_text m c
    ≡ codes "reset-snapshot 1\n" ++ (flat_map (shown m c) c.graph.nodes ++ links_text (links_of g))
unfolding snapshot_text
snapshot_text-is m c g is =
    ap (λ (h : Graph). codes "reset-snapshot 1\n" ++ (flat_map (shown m c) c.graph.nodes ++ links_text (links_of h)))
    (sym is)
