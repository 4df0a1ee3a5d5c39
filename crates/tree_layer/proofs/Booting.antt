-- The first neighbour one step nearer makes the registers that a node is booted with.
use Rattle.std.proofs.Common.{◌≡◌, ◌≢◌, ℕ, ◌+◌, ◌<◌, ◌≤◌, ◌&&◌, Bool, true, false, List, [], ◌∷◌, ◌++◌, length}
use Rattle.std.proofs.Common.{map, slice_index, get_or, All, refl, sym, ap, subst, subst₂, ◌∙◌, ◌⊎◌, inl, inr, arith}
use Rattle.std.proofs.Common.{eq-eqb, eqb, replicate, true≢false, ⊎_elim}
use Rattle.std.specs.List.Sorted.{IsStrictlyIncreasing}
use Rattle.std.proofs.lemmas.Bool.{and_from, cases_lt}
use Rattle.std.proofs.lemmas.List.{get_or-map, get_or-replicate, length-map, length-replicate, get_or_append_left}
use Rattle.std.proofs.Math.Seq.{get_or-append_seam}
use Rattle.std.proofs.lemmas.List.Kept.{AllPairs-from_increasing}
use Rattle.topology.proofs.Components.{leader_leads, leader_node, same_leader}
use Rattle.topology.proofs.Walks.{index_of_node}
use Rattle.topology.proofs.Membership.{has-Contains, Contains-has, has-filter}
use Rattle.topology.specs.Graph.{Graph, IsGraph, IsNode, AreLinked, are_linked, neighbours_of}
use Rattle.topology.specs.Graph.{has, is_node}
use Rattle.topology.specs.Graph.{IsWalk, IsDistance, IsDistanceOrNone, IsReached}
use Rattle.topology.specs.Components.{leader}
use Rattle.tree_layer.specs.declared.regs.TreeRegs.{TreeRegs}
use Rattle.tree_layer.specs.BootTree.{IsNearer, IsBooted, IsBootedOrDown, AreDistances, IsFirstNearer, KeepsFound, NoneNearer}

-- a node has one distance to another
one_distance : {g : Graph} {a b d e : ℕ} → IsDistance g a b d → IsDistance g a b e → d ≡ e
one_distance x y = let p = x.least y.walk.0 y.walk.1 in let q =
    y.least x.walk.0 x.walk.1 in omega (arith, p, q, x.walk.2, y.walk.2)

module _ (g : Graph) (graph : IsGraph g) (distances : List ℕ) (are : AreDistances g distances)
    (ix : ℕ) (short : ix < length g.ids) (i_in : IsNode g (slice_index g.ids ix)) (near : List ℕ)
    (ids : map (λ n. slice_index g.ids n) near ≡ neighbours_of g (slice_index g.ids ix))
    (within : All (λ n. n < length g.ids) near) (up : IsStrictlyIncreasing near) where
  abbrev i : ℕ
  i = slice_index g.ids ix

  abbrev top : ℕ
  top = leader g i

  abbrev d : ℕ
  d = slice_index distances ix

  -- the near indexes are those of the neighbours
  near_linked : (k : ℕ) → k < length near → AreLinked g i (slice_index g.ids (slice_index near k))
  near_linked k there =
      let x = slice_index g.ids (slice_index near k) in
      let in_map : has (map (λ n. slice_index g.ids n) near) x ≡ true =
      has-Contains _ x (
        k,
        omega (arith, length-map near (λ n. slice_index g.ids n)),
        get_or-map (λ n. slice_index g.ids n) near k 0
            x there,
      ) in
      first _ _ (sym (has-filter (are_linked g i) g.ids x) ∙ ap (λ ns. has ns x) (sym ids) ∙ in_map)
    where
      first : (a b : Bool) → (a && b) ≡ true → a ≡ true
      first true b e = refl
      first false b e = absurd (true≢false (sym e))

  linked_near : (j : ℕ) → AreLinked g i j → (k : ℕ) × (k < length near) × (slice_index g.ids (slice_index near k) ≡ j)
  linked_near j linked =
      let node : has g.ids j ≡ true = has-Contains g.ids j (graph.within j (graph.ends j i (graph.symmetric j i ∙ linked))) in
      let among : has (neighbours_of g i) j ≡ true =
      has-filter (are_linked g i) g.ids j ∙ both (are_linked g i j) _ linked node in
      let place = Contains-has (map (λ n. slice_index g.ids n) near) j (ap (λ ns. has ns j) ids ∙ among) in
      let there : place.0 < length near = omega (arith, place.1, length-map near (λ n. slice_index g.ids n)) in
      (place.0, there, sym (get_or-map (λ n. slice_index g.ids n) near place.0 0 j there) ∙ place.2)
    where
      both : (a b : Bool) → a ≡ true → b ≡ true → (a && b) ≡ true
      both true b x y = y
      both false b x y = x

  -- the distance of what is near is that to the same leader
  near_distance : (k : ℕ) → k < length near
      → IsDistance g (slice_index g.ids (slice_index near k)) top (slice_index distances (slice_index near k))
  near_distance k there =
      let n = slice_index near k in
      let j : ℕ = slice_index g.ids n in
      subst (λ r. IsDistance g j r (slice_index distances n))
      (same_leader g i j graph i_in (j ∷ [], (near_linked k there, refl))) (are.each n (within k 0 there) (graph.ends j i (graph.symmetric j i ∙ near_linked k there)))

  root_distance : i ≡ top → d ≡ 0
  root_distance same = omega (arith, (are.each ix short i_in).least [] same)

  -- a nearer neighbour has an index, with its distance
  nearer_index : (j : ℕ) → IsNearer g top d i j
      → (k : ℕ) × (k < length near) × (slice_index g.ids (slice_index near k) ≡ j)
      × (slice_index distances (slice_index near k) + 1 ≡ d)
  nearer_index j h =
      let at = linked_near j h.linked in
      let P : ℕ → Type 0 = λ k. IsDistance g k top (slice_index distances (slice_index near at.0)) in
      let same : slice_index distances (slice_index near at.0) ≡ h.steps =
      one_distance (subst P at.2 (near_distance at.0 at.1)) h.distance in
      (at.0, at.1, at.2, ap (λ e. e + 1) same ∙ h.nearer)

  -- with a nearer neighbour
  pub booted_below : (n : ℕ) → IsFirstNearer near distances d n
      → IsBooted g i (record { root = top; father = slice_index g.ids n; dist = d })
  booted_below n f =
      record {
        root = leader_leads g i graph i_in;
        dist = are.each ix short i_in;
        top = λ same. absurd (omega (arith, root_distance same, f.nearer));
        father = λ other. record {
          linked =
              (let P : ℕ
              → Type 0 = λ m. AreLinked g i (slice_index g.ids m) in subst P f.item (near_linked f.place f.there));
          steps = slice_index distances n;
          distance =
              (let P : ℕ → Type 0 = λ m. IsDistance g (slice_index g.ids m) top (slice_index distances m) in
              subst P f.item (near_distance f.place f.there));
          nearer = f.nearer;
        };
        least = λ j h. in_order (nearer_index j h);
      }
    where
      in_order : {j : ℕ}
          → (k : ℕ) × (k < length near) × (slice_index g.ids (slice_index near k) ≡ j)
          × (slice_index distances (slice_index near k) + 1 ≡ d) → slice_index g.ids n ≤ j
      in_order {j} at = side (cases_lt at.0 f.place) (cases_lt f.place at.0)
        where
          side : (at.0 < f.place) ⊎ (f.place ≤ at.0) → (f.place < at.0) ⊎ (at.0 ≤ f.place) → slice_index g.ids n ≤ j
          side (inl before) later = absurd (f.before at.0 before at.3)
          side (inr e) (inl after) =
              let rows = AllPairs-from_increasing near up f.place at.0 0 after at.1 in
              let rise =
              AllPairs-from_increasing g.ids graph.ascending n (slice_index near at.0) 0
              (omega (arith, rows, f.item)) (within at.0 0 at.1) in
              omega (arith, rise, at.2)
          side (inr e) (inr l) =
              let same : f.place ≡ at.0 = omega arith in
              omega (arith, ap (slice_index g.ids) (sym f.item ∙ ap (slice_index near) same), at.2)

  first_step : NoneNearer near distances d → (cs : List ℕ) → IsWalk g i cs top → length cs ≡ d → i ≢ top → ⊥
  first_step none [] walk long other = other walk
  first_step none (c ∷ cs) walk long other =
      let at = linked_near c walk.0 in
      let P : ℕ → Type 0 = λ k. IsDistance g k top (slice_index distances (slice_index near at.0)) in
      let from_c = subst P at.2 (near_distance at.0 at.1) in
      let shorter = from_c.least cs walk.1 in
      let longer = (are.each ix short i_in).least (c ∷ from_c.walk.0) (walk.0, from_c.walk.1) in
      none at.0 at.1 (omega (arith, shorter, longer, from_c.walk.2))

  -- without one, at the leader
  pub booted_top : NoneNearer near distances d
      → IsBooted g i (record { root = top; father = top; dist = d })
  booted_top none = record {
    root = leader_leads g i graph i_in;
    dist = are.each ix short i_in;
    top = λ same. sym same;
    father =
        λ other. absurd
        (first_step none (are.each ix short i_in).walk.0 (are.each ix short i_in).walk.1 (are.each ix short i_in).walk.2 other);
    least = λ j h. let at = nearer_index j h in absurd (none at.0 at.1 at.3);
  }

-- one more identifier's registers
pub each_more : (g : Graph) (trees : List TreeRegs) (last : TreeRegs) (n : ℕ) → length trees ≡ n
    → ((k : ℕ) (regs : TreeRegs) → k < n → IsBootedOrDown g (slice_index g.ids k) (get_or trees k regs))
    → IsBootedOrDown g (slice_index g.ids n) last →
    (k : ℕ) (regs : TreeRegs) → k < n + 1 → IsBootedOrDown g (slice_index g.ids k) (get_or (trees ++ last ∷ []) k regs)
each_more g trees last n count each here k regs below = at (cases_lt k n)
  where
    at : (k < n) ⊎ (n ≤ k) → IsBootedOrDown g (slice_index g.ids k) (get_or (trees ++ last ∷ []) k regs)
    at (inl before) = let short : k < length trees =
        omega arith in rw (get_or_append_left trees (last ∷ []) regs k short) (each k regs before)
    at (inr past) =
        let same : length trees ≡ k = omega arith in
        let P : ℕ → Type 0 = λ m. IsBootedOrDown g (slice_index g.ids m) (get_or (trees ++ last ∷ []) m regs) in
        subst P same (rw (get_or-append_seam trees last [] regs, count) here)

-- ---- the distances, leader by leader

-- the nodes whose leaders stand before the index have their distances
pub record AreFound (g : Graph) (index : ℕ) (distances : List ℕ) : Type 0 where
  pub count : length distances ≡ length g.ids
  pub each : (k j : ℕ) → k < length g.ids → IsNode g (slice_index g.ids k) → j < index
      → slice_index g.ids j ≡ leader g (slice_index g.ids k)
      → IsDistance g (slice_index g.ids k) (leader g (slice_index g.ids k)) (slice_index distances k)
  pub below : (k : ℕ) → k < length g.ids → slice_index distances k < length g.ids

pub found_none : (g : Graph) (distances : List ℕ) → IsGraph g → distances ≡ replicate (length g.ids) 0
    → AreFound g 0 distances
found_none g distances graph zeros = record {
  count = ap length zeros ∙ length-replicate {A = ℕ} (length g.ids) 0;
  each = λ k j k_in node j_low same. absurd (omega (arith, j_low));
  below = λ k k_in.
      omega (
        arith,
        ap (λ xs. get_or xs k 0) zeros,
        get_or-replicate {A = ℕ} (length g.ids) k 0 0 k_in,
        graph.some,
      );
}

module _ (g : Graph) (graph : IsGraph g) (index : ℕ) (short : index < length g.ids) (old : List ℕ)
    (so_far : AreFound g index old) where
  abbrev id : ℕ
  id = slice_index g.ids index

  -- a leader is a node that leads itself
  leads_itself : (k : ℕ) → IsNode g (slice_index g.ids k) → id ≡ leader g (slice_index g.ids k)
      → (is_node g id && eqb (leader g id) id) ≡ true
  leads_itself k node same =
      let i : ℕ = slice_index g.ids k in
      let P : ℕ → Type 0 = λ x. IsReached g i x in
      let itself : leader g id ≡ id =
      same_leader g i id graph node (subst P (sym same) (leader_leads g i graph node).reached) ∙ sym same in
      let up : IsNode g id = subst (λ x. IsNode g x) (sym same) (leader_node g i graph node) in
      and_from (is_node g id) (eqb (leader g id) id) (has-Contains g.nodes id up) (eq-eqb (leader g id) id itself)

  -- a node that is no leader has nothing to add
  pub found_same : (is_node g id && eqb (leader g id) id) ≡ false → AreFound g (index + 1) old
  found_same other = record {
    count = so_far.count;
    each = λ k j k_in node j_low same. so_far.each k j k_in node (before k j node j_low same) same;
    below = so_far.below;
  }
    where
      before : (k j : ℕ) → IsNode g (slice_index g.ids k) → j < index + 1
          → slice_index g.ids j ≡ leader g (slice_index g.ids k) → j < index
      before k j node j_low same = at (cases_lt j index)
        where
          at : (j < index) ⊎ (index ≤ j) → j < index
          at (inl low) = low
          at (inr high) =
              let here : j ≡ index = omega arith in
              absurd
              (true≢false (sym (leads_itself k node (sym (ap (slice_index g.ids) here) ∙ same)) ∙ other))

  module _ (leads : leader g id ≡ id) (found new : List ℕ) (count : length found ≡ length g.ids)
      (are : (k : ℕ) → k < length g.ids
      → IsDistanceOrNone (length g.ids) g (slice_index g.ids k) id (slice_index found k))
      (keeps : KeepsFound found old new) where
    -- a node has another leader, or what was found
    abbrev Has : ℕ → Type 0
    Has k = IsDistance g (slice_index g.ids k) (leader g (slice_index g.ids k)) (slice_index new k)

    each_found : (k j : ℕ) → k < length g.ids → IsNode g (slice_index g.ids k) → j < index + 1
        → slice_index g.ids j ≡ leader g (slice_index g.ids k) → Has k
    each_found k j k_in node j_low same = of (are k k_in)
      where
        i : ℕ
        i = slice_index g.ids k

        of : IsDistanceOrNone (length g.ids) g i id (slice_index found k) → Has k
        of (inl (less, distance)) =
            let kept : slice_index new k ≡ slice_index found k =
            keeps.kept k (omega (arith, count)) (omega (arith, count)) in
            let top : id ≡ leader g i =
            sym leads ∙ same_leader g i id graph node (distance.walk.0, distance.walk.1) in
            subst₂ (λ r d. IsDistance g i r d) top (sym kept) distance
        of (inr (none, unreached)) = at (cases_lt j index)
          where
            kept : slice_index new k ≡ slice_index old k
            kept = keeps.others k (omega (arith, count)) (omega (arith, count))

            at : (j < index) ⊎ (index ≤ j) → Has k
            at (inl low) = subst (λ d. IsDistance g i (leader g i) d) (sym kept) (so_far.each k j k_in node low same)
            at (inr high) =
                let here : j ≡ index = omega arith in
                let P : ℕ → Type 0 = λ x. IsReached g i x in
                absurd
                (unreached
                (subst P (sym (sym (ap (slice_index g.ids) here) ∙ same))
                (leader_leads g i graph node).reached))

    pub found_more : AreFound g (index + 1) new
    found_more = record {
      count = keeps.count ∙ so_far.count;
      each = each_found;
      below = λ k k_in.
          ⊎_elim (λ low. omega (arith, keeps.kept k (omega (arith, count)) (omega (arith, count)), low))
          (λ high.
          omega (arith, keeps.others k (omega (arith, count)) (omega (arith, count)), so_far.below k k_in))
          (cases_lt (slice_index found k) (length g.ids));
    }

-- with all leaders done, all nodes have their distances
pub found_all : (g : Graph) (distances : List ℕ) → IsGraph g → AreFound g (length g.ids) distances
    → AreDistances g distances
found_all g distances graph found =
    let place : (k : ℕ) → IsNode g (slice_index g.ids k)
    → (j : ℕ) × (j < length g.ids) × (slice_index g.ids j ≡ leader g (slice_index g.ids k)) =
    λ k node. index_of_node g.ids (leader g (slice_index g.ids k))
    (graph.within (leader g (slice_index g.ids k)) (leader_node g (slice_index g.ids k) graph node)) in
    record {
      count = found.count;
      each = λ k k_in node. let at = place k node in found.each k at.0 k_in node at.1 at.2;
      below = found.below;
    }
