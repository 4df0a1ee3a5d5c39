-- What is known to fail, from one entry to the next.
use Rattle.std.proofs.Common.{◌≡◌, ◌≢◌, ◌⊎◌, inl, inr, ℕ, ◌==◌, nat_eq, Bool, true, false, cond, ◌||◌, List, [], ◌∷◌, ◌++◌}
use Rattle.std.proofs.Common.{map, filter, length, Option, Some, None, refl, sym, ap, ap₂, subst, ◌∙◌}
use Rattle.std.proofs.Common.{position}
use Rattle.std.specs.List.{flat_map, list_any}
use Rattle.std.specs.Prelude.{All}
use Rattle.std.specs.Option.{is_some}
use Rattle.std.proofs.lemmas.Bool.Decides.{eqb_tells}
use Rattle.std.proofs.lemmas.List.{length-map}
use Rattle.std.proofs.lemmas.List.Elements.{All-cons, All-nil}
use Rattle.app_interface.specs.Application.{App}
use Rattle.topology.specs.Graph.{Graph, IsGraph, are_linked, has, is_node, neighbours_of, node_bound}
use Rattle.topology.proofs.Membership.{Contains-has, has-Contains}
use Rattle.reset_model.specs.Configuration.{Configuration, IsShaped, put_at, tree_of, value_at}
use Rattle.reset_model.specs.View.{Neighbour, near_of}
use Rattle.reset_model.proofs.Positions.{list_any-position, value_at-put_at, value_at-put_at_other}
use Rattle.reset_model.proofs.Shapes.{length-put_at}
use Rattle.link_predicates.specs.Faults.{end_faults, fault_of, link_faults, node_faults, own_row}
use Rattle.link_predicates.specs.declared.fault.Family.TheVariants.{Tree}
use Rattle.link_predicates.specs.declared.fault.LinkFault.{LinkFault}
use Rattle.link_predicates.proofs.OwnRows.{father_row, stray_row}
use Rattle.history.specs.declared.entry.Entry.{Entry}
use Rattle.history.specs.Entries.{entered}
use Rattle.history_page.specs.Entries.{concerned}
use Rattle.history_page.specs.Failing.{failing, noted, row_text, rows_text}
use Rattle.history_page.specs.Known.{IsKnown, StaysQuiet, kept, known_at, written_at}
use Rattle.history_page.proofs.Elsewhere.{entered_elsewhere}
use Rattle.history_page.proofs.Written.{IsWrittenAt, entered_ids, entered_written}

-- ---- lists

both_empty : {X : Type 0} (xs ys : List X) → xs ++ ys ≡ [] → (xs ≡ []) × (ys ≡ [])
both_empty [] ys is = (refl, is)
both_empty (x ∷ xs) ys is = absurd (cc)

no_rows : (faults : List LinkFault) → rows_text faults ≡ [] → faults ≡ []
unfolding row_text
no_rows [] is = refl
no_rows (f ∷ fs) is = absurd (cc)

-- nothing is told of what passes, where nothing was, and whatever nothing was told of has nothing told now
none_told : {X A : Type 0} (f : X → List A) (of of' : ℕ → X) (p : ℕ → Bool) (xs : List ℕ)
    → ((k : ℕ) → p k ≡ true → f (of k) ≡ [] → f (of' k) ≡ [])
    → flat_map f (map of (filter p xs)) ≡ [] → flat_map f (map of' (filter p xs)) ≡ []
none_told f of of' p [] each none = refl
none_told {X} f of of' p (x ∷ xs) each none = at (p x) refl (none_told f of of' p xs each) none
  where
    at : (b : Bool) → p x ≡ b
        → (flat_map f (map of (filter p xs)) ≡ [] → flat_map f (map of' (filter p xs)) ≡ [])
        → flat_map f (map of (cond b (x ∷ filter p xs) (filter p xs))) ≡ []
        → flat_map f (map of' (cond b (x ∷ filter p xs) (filter p xs))) ≡ []
    at true passes rest none =
        let parts = both_empty (f (of x)) (flat_map f (map of (filter p xs))) none in
        ap₂ (λ s t. s ++ t) (each x passes parts.0) (rest parts.1)
    at false fails rest none = rest none

-- ---- what is no identifier

missing : (is : List ℕ) (known : List (ℕ × List ℕ)) (k : ℕ) → has is k ≡ false → known_at is known k ≡ []
missing [] known k out = refl
missing (x ∷ xs) [] k out = refl
missing (x ∷ xs) (n ∷ ns) k out = at (x == k) out (missing xs ns k)
  where
    at : (b : Bool) → (b || has xs k) ≡ false → (has xs k ≡ false → known_at xs ns k ≡ [])
        → (cond b n (value_at (0, []) xs ns k)).1 ≡ []
    at true out rest = absurd (cc)
    at false out rest = rest out

put_missing : (is : List ℕ) (known : List (ℕ × List ℕ)) (k : ℕ) (n : ℕ × List ℕ) → has is k ≡ false
    → put_at is known k n ≡ known
put_missing [] known k n out = refl
put_missing (x ∷ xs) [] k n out = refl
put_missing (x ∷ xs) (m ∷ ms) k n out = at (x == k) out (put_missing xs ms k n)
  where
    at : (b : Bool) → (b || has xs k) ≡ false → (has xs k ≡ false → put_at xs ms k n ≡ ms)
        → cond b (n ∷ ms) (m ∷ put_at xs ms k n) ≡ m ∷ ms
    at true out rest = absurd (cc)
    at false out rest = ap (λ more. m ∷ more) (rest out)

pub unplaced : (is : List ℕ) (known : List (ℕ × List ℕ)) (k : ℕ) → position (λ i. i == k) is ≡ None
    → known_at is known k ≡ []
unplaced is known k none = missing is known k (list_any-position is k ∙ ap is_some none)

pub put_nowhere : (is : List ℕ) (known : List (ℕ × List ℕ)) (k : ℕ) (n : ℕ × List ℕ) → position (λ i. i == k) is ≡ None
    → put_at is known k n ≡ known
put_nowhere is known k n none = put_missing is known k n (list_any-position is k ∙ ap is_some none)

module _ {L : Type 0} (app : App L) where
  -- ---- a node that isn't the one at which was written

  module _ (c d : Configuration L) (graph : IsGraph c.graph) (i : ℕ) (wrote : IsWrittenAt app c d i) (j : ℕ) (other : j ≢ i)
    where
      own_stays : own_row d j ≡ own_row c j
      own_stays = at (are_linked c.graph j (tree_of c j).father) refl
        where
          graph' : IsGraph d.graph
          graph' = subst IsGraph (sym wrote.graph) graph

          bound : node_bound c.graph ≡ node_bound d.graph
          bound = ap node_bound (sym wrote.graph)

          same : near_of app c j ≡ near_of app d j
          same = sym (wrote.near j other)

          at : (b : Bool) → are_linked c.graph j (tree_of c j).father ≡ b → own_row d j ≡ own_row c j
          at true linked =
              let up = tree_of c j in
              sym (father_row app d graph' j (node_bound c.graph) (near_of app c j) same bound up
              (ap (λ (g : Graph). are_linked g j (tree_of c j).father) wrote.graph ∙ linked))
              ∙ father_row app c graph j (node_bound c.graph) (near_of app c j) refl refl up linked
          at false stray =
              sym (stray_row app d graph' j (node_bound c.graph) (near_of app c j) same bound
              (ap (λ (g : Graph). are_linked g j (tree_of c j).father) wrote.graph ∙ stray))
              ∙ stray_row app c graph j (node_bound c.graph) (near_of app c j) refl refl stray

      -- what is told of all links of j, where it sees these nodes
      abbrev told : Graph → ℕ → Neighbour L → List LinkFault
      told g m own = flat_map (link_faults app (node_bound g) m own) (map (near_of app d) (neighbours_of g j))

      told_alike : told d.graph d.modulus (near_of app d j) ≡ told c.graph c.modulus (near_of app c j)
      told_alike =
          ap (λ g. told g d.modulus (near_of app d j)) wrote.graph
          ∙ ap₂ (told c.graph) wrote.modulus (wrote.near j other)

      abbrev links : Neighbour L → List LinkFault
      links = link_faults app (node_bound c.graph) c.modulus (near_of app c j)

      -- the end of the link to i, as it is now
      abbrev end_at : Graph → ℕ → Neighbour L → List LinkFault
      end_at g m own = cond (are_linked g j i) (link_faults app (node_bound g) m own (near_of app d i)) []

      link_quiet : end_faults app d j i ≡ [] → (k : ℕ) → are_linked c.graph j k ≡ true → links (near_of app c k) ≡ []
          → links (near_of app d k) ≡ []
      link_quiet none k linked was = at (eqb_tells k i)
        where
          at : ((nat_eq k i ≡ true) × (k ≡ i)) ⊎ ((nat_eq k i ≡ false) × (k ≢ i)) → links (near_of app d k) ≡ []
          at (inl same) =
              ap (λ n. links (near_of app d n)) same.1
              ∙ sym (ap (λ b. cond b (links (near_of app d i)) []) (ap (are_linked c.graph j) (sym same.1) ∙ linked))
              ∙ sym (ap (λ g. end_at g d.modulus (near_of app d j)) wrote.graph
              ∙ ap₂ (end_at c.graph) wrote.modulus (wrote.near j other))
              ∙ none
          at (inr away) = ap links (wrote.near k away.1) ∙ was

      faults_stay : end_faults app d j i ≡ [] → node_faults app c j ≡ [] → node_faults app d j ≡ []
      faults_stay none was =
          let parts = both_empty (fault_of j j Tree (own_row c j)) (flat_map links (map (near_of app c) (neighbours_of c.graph j)))
          was in
          ap₂ (λ s t. s ++ t) (ap (fault_of j j Tree) own_stays ∙ parts.0)
          (told_alike ∙ none_told links (near_of app c) (near_of app d) (are_linked c.graph j) c.graph.ids
          (link_quiet none) parts.1)

      stays_quiet : rows_text (failing app c j) ≡ [] → end_faults app d j i ≡ [] → failing app d j ≡ []
      unfolding failing
      stays_quiet was none =
          ap (λ (g : Graph). cond (is_node g j) (node_faults app d j) []) wrote.graph ∙ at (is_node c.graph j) refl
        where
          at : (b : Bool) → is_node c.graph j ≡ b → cond b (node_faults app d j) [] ≡ []
          at true up =
              faults_stay none
              (ap (λ b. cond b (node_faults app c j) []) (sym up) ∙ no_rows (failing app c j) was)
          at false down = refl

  -- ---- the list of what is known

  module _ (d : Configuration L) (graph : IsGraph d.graph) where
    abbrev ids : List ℕ
    ids = d.graph.ids

    abbrev rows : ℕ → List ℕ
    rows k = rows_text (failing app d k)

    -- nothing fails at what is no identifier
    strange_rows : (k : ℕ) → has ids k ≡ false → [] ≡ rows k
    unfolding failing
    strange_rows k strange = at (is_node d.graph k) refl
      where
        at : (b : Bool) → is_node d.graph k ≡ b → [] ≡ rows_text (cond b (node_faults app d k) [])
        at true up =
            let there : has ids k ≡ true = has-Contains ids k (graph.within k (Contains-has d.graph.nodes k up)) in
            absurd (cc)
        at false down = refl

    put_here : (known : List (ℕ × List ℕ)) (k : ℕ) → length known ≡ length ids
        → known_at ids (put_at ids known k (k, rows k)) k ≡ rows k
    put_here known k count = at (has ids k) refl
      where
        at : (b : Bool) → has ids k ≡ b → known_at ids (put_at ids known k (k, rows k)) k ≡ rows k
        at true there =
            ap (λ (n : ℕ × List ℕ). n.1)
            (value_at-put_at (0, []) ids known k (k, rows k) count (Contains-has ids k there))
        at false strange = missing ids (put_at ids known k (k, rows k)) k strange ∙ strange_rows k strange

    abbrev is_among : List (ℕ × List ℕ) → ℕ → Bool
    is_among nodes k = list_any (λ n. n.0 == k) nodes

    kept_count : (nodes known : List (ℕ × List ℕ)) → length known ≡ length ids → length (kept app d nodes known) ≡ length ids
    kept_count [] known count = count
    kept_count (n ∷ ns) known count =
        kept_count ns (put_at ids known n.0 (n.0, rows n.0)) (length-put_at ids known n.0 (n.0, rows n.0) count)

    kept_rows : (nodes known : List (ℕ × List ℕ)) → length known ≡ length ids
        → ((k : ℕ) → is_among nodes k ≡ false → known_at ids known k ≡ rows k) → (k : ℕ)
        → known_at ids (kept app d nodes known) k ≡ rows k
    kept_rows [] known count others k = others k refl
    kept_rows (n ∷ ns) known count others k =
        kept_rows ns (put_at ids known n.0 (n.0, rows n.0)) (length-put_at ids known n.0 (n.0, rows n.0) count)
        (λ j out. at j out (eqb_tells n.0 j)) k
      where
        at : (j : ℕ) → is_among ns j ≡ false
            → ((nat_eq n.0 j ≡ true) × (n.0 ≡ j)) ⊎ ((nat_eq n.0 j ≡ false) × (n.0 ≢ j))
            → known_at ids (put_at ids known n.0 (n.0, rows n.0)) j ≡ rows j
        at j out (inl same) =
            subst (λ i. known_at ids (put_at ids known n.0 (n.0, rows n.0)) i ≡ rows i) same.1 (put_here known n.0 count)
        at j out (inr away) =
            ap (λ (m : ℕ × List ℕ). m.1)
            (value_at-put_at_other (0, []) ids known n.0 j (n.0, rows n.0) (λ same. away.1 (sym same)))
            ∙ others j (ap (λ b. b || is_among ns j) away.0 ∙ out)

    value_at-map : (is : List ℕ) (k : ℕ) → has is k ≡ true → known_at is (noted app d is) k ≡ rows k
    value_at-map [] k there = absurd (cc)
    value_at-map (x ∷ xs) k there = at (eqb_tells x k) there (value_at-map xs k)
      where
        at : ((nat_eq x k ≡ true) × (x ≡ k)) ⊎ ((nat_eq x k ≡ false) × (x ≢ k)) → ((x == k) || has xs k) ≡ true
            → (has xs k ≡ true → known_at xs (noted app d xs) k ≡ rows k)
            → known_at (x ∷ xs) (noted app d (x ∷ xs)) k ≡ rows k
        at (inl same) there rest =
            ap (λ b. (cond b (x, rows x) (value_at (0, []) xs (noted app d xs) k)).1) same.0 ∙ ap rows same.1
        at (inr away) there rest =
            ap (λ b. (cond b (x, rows x) (value_at (0, []) xs (noted app d xs) k)).1) away.0
            ∙ rest (ap (λ b. b || has xs k) (sym away.0) ∙ there)

    -- what was noted at all identifiers is what is known
    pub all_known : IsKnown app d (noted app d ids)
    all_known = record { count = length-map ids _; rows = λ k. at k (has ids k) refl }
      where
        at : (k : ℕ) (b : Bool) → has ids k ≡ b → known_at ids (noted app d ids) k ≡ rows k
        at k true there = value_at-map ids k there
        at k false strange = missing ids (noted app d ids) k strange ∙ strange_rows k strange

  -- ---- an entry

  noted_ids : (c : Configuration L) (is : List ℕ) (k : ℕ) → list_any (λ n. n.0 == k) (noted app c is) ≡ has is k
  noted_ids c [] k = refl
  noted_ids c (x ∷ xs) k = ap (λ b. (x == k) || b) (noted_ids c xs k)

  module _ (from_text : List ℕ → Option L) (c d : Configuration L) (entry : Entry) (graph : IsGraph c.graph)
      (shaped : IsShaped c) (is : entered app from_text c entry ≡ Some d) where
    quiet_by : (o : Option ℕ) → written_at entry ≡ o → (k : ℕ) → StaysQuiet app d o (k, rows_text (failing app c k))
    quiet_by None at k = tt
    quiet_by (Some i) at k =
        λ none other now. stays_quiet c d graph i (entered_written app from_text c entry d i at is) k other none now

    -- where nothing failed at another node, and nothing fails at its end of its link, nothing does
    pub noted_quiet : (ks : List ℕ) → All (StaysQuiet app d (written_at entry)) (noted app c ks)
    noted_quiet [] = All-nil (StaysQuiet app d (written_at entry))
    noted_quiet (k ∷ ks) =
        All-cons (StaysQuiet app d (written_at entry)) (k, rows_text (failing app c k)) (noted app c ks)
        (quiet_by (written_at entry) refl k) (noted_quiet ks)

    -- what is kept at the nodes that it concerns is known of all
    pub kept_known : (known : List (ℕ × List ℕ)) → IsGraph d.graph → IsKnown app c known
        → IsKnown app d (kept app d (noted app c (concerned c.graph entry)) known)
    kept_known known after were =
        let same = entered_ids app from_text c entry d is in
        let nodes = noted app c (concerned c.graph entry) in
        let count : length known ≡ length d.graph.ids = were.count ∙ ap length (sym same) in
        record {
          count = kept_count d after nodes known count;
          rows = kept_rows d after nodes known count
              (λ k out. ap (λ ids. known_at ids known k) same ∙ were.rows k
              ∙ ap rows_text (sym (entered_elsewhere app from_text c graph shaped k entry d is
              (sym (noted_ids c (concerned c.graph entry) k) ∙ out))));
        }
