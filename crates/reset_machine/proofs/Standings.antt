-- What is known of nodes, as they are exchanged.
use Rattle.std.proofs.Common.{◌≡◌, ◌≢◌, ℕ, zero, suc, ◌+◌, ◌-◌, ◌<◌, ◌≤◌, nat_eq, Bool, true, false, List, [], ◌∷◌}
use Rattle.std.proofs.Common.{◌++◌, cond, length, slice_index, slice_index_or, slice_set, inl, inr, ⊎_elim, refl}
use Rattle.std.proofs.Common.{add-one, position, zero-add, Some, sym, ap, subst, ◌∙◌, arith}
use Rattle.std.specs.List.{list_any, range_with_len, swap}
use Rattle.std.specs.List.Sorted.{IsPermutation}
use Rattle.std.proofs.lemmas.Bool.{cases_eq, cases_order, eq-eqb, eqb-true, false≢true, ne_eqb}
use Rattle.std.proofs.lemmas.List.{get_or_default, get_or-set_other, get_or-set_same, length-set}
use Rattle.std.proofs.lemmas.List.Folds.{list_any_at, list_any_none}
use Rattle.std.proofs.lemmas.List.Quantifiers.{position-Some}
use Rattle.std.proofs.lemmas.List.Edits.{Swapped, length-swap, swapped_from_swap}
use Rattle.std.proofs.lemmas.List.FromFn.{get_or-range_with_len, length-range_with_len}
use Rattle.std.proofs.lemmas.List.Sorted.{All-permutation, Contains-permutation, IsPermutation-refl, IsPermutation-swap}
use Rattle.std.proofs.lemmas.List.Sorted.{IsPermutation-trans}
use Rattle.std.proofs.lemmas.Map.Keys.{IsDistinct-IsPermutation, IsDistinct-from_apart, apart_from_distinct}
use Rattle.indexmap.specs.IndexSet.{insert_key}
use Rattle.reset_machine.specs.ReadySet.{AreMarks, Doubts, IsKnownIdle, IsKnownReady, IsStanding, Settles}
use Rattle.reset_machine.specs.ReadySet.{Standing, last_in_doubt}

-- what is known, from its parts
abbrev pub standing : List ℕ → ℕ → ℕ → Standing
standing nodes ready idle = record { nodes = nodes; ready = ready; idle = idle }

pub eq_flips : (x y : ℕ) → nat_eq x y ≡ nat_eq y x
eq_flips x y =
    ⊎_elim (λ e. eq-eqb x y e ∙ sym (eq-eqb y x (sym e))) (λ n. ne_eqb x y n ∙ sym (ne_eqb y x (λ e. n (sym e))))
    (cases_eq x y)

-- ---- each node stands at one place

module _ (s : Standing) (h : IsStanding s) where
  abbrev count : ℕ
  count = length s.nodes

  pub node_below : (place : ℕ) → place < count → slice_index s.nodes place < count
  node_below place low =
      All-permutation (λ n. n < count) (range_with_len 0 count) s.nodes h.all
      (λ k d short. let small : k < count = subst (λ n. k < n) (length-range_with_len 0 count) short in
      omega (arith, get_or-range_with_len 0 count k d small)) place 0 low

  pub node_placed : (n : ℕ) → n < count → (place : ℕ) × (place < count) × (slice_index s.nodes place ≡ n)
  node_placed n low =
      let there = Contains-permutation (range_with_len 0 count) s.nodes n h.all (
        n,
        subst (λ k. n < k) (sym (length-range_with_len 0 count)) low,
        omega (arith, get_or-range_with_len 0 count n n low),
      ) in
      (there.0, there.1, get_or_default s.nodes there.0 0 n there.1 ∙ there.2)

  apart : (p q : ℕ) → p < q → q < count → slice_index s.nodes p ≡ slice_index s.nodes q → ⊥
  apart p q less low same =
      let distinct = IsDistinct-IsPermutation nat_eq eq_flips (range_with_len 0 count) s.nodes h.all
      (IsDistinct-from_apart nat_eq (range_with_len 0 count)
      (λ i j d below short. let small : j < count = subst (λ n. j < n) (length-range_with_len 0 count) short in
      ne_eqb _ _ (λ e. omega (
        arith,
        e,
        get_or-range_with_len 0 count i d (omega arith),
        get_or-range_with_len 0 count j d small,
      )))) in
      false≢true (sym (apart_from_distinct nat_eq s.nodes p q 0 distinct less low) ∙ eq-eqb _ _ same)

  pub node_once : (p q : ℕ) → p < count → q < count → slice_index s.nodes p ≡ slice_index s.nodes q → p ≡ q
  node_once p q p_low q_low same =
      ⊎_elim (λ e. e)
      (λ other. ⊎_elim (λ less. absurd (apart p q less q_low same)) (λ more. absurd (apart q p more p_low (sym same)))
      other)
      (cases_order p q)

  -- ---- an exchange

  module _ (a b : ℕ) (nodes : List ℕ) (a_low : a < count) (b_low : b < count) (swapped : nodes ≡ swap s.nodes a b) where
    same_count : length nodes ≡ count
    same_count = ap length swapped ∙ length-swap s.nodes a b

    moved : Swapped (λ i. slice_index_or s.nodes i 0) (λ i. slice_index_or nodes i 0) a b
    moved = swapped_from_swap s.nodes nodes a b 0 a_low b_low swapped

    pub swapped_all : IsPermutation (range_with_len 0 (length nodes)) nodes
    swapped_all =
        subst (λ n. IsPermutation (range_with_len 0 n) nodes) (sym same_count)
        (IsPermutation-trans (range_with_len 0 count) s.nodes nodes h.all
        (IsPermutation-swap s.nodes nodes a b a_low b_low swapped))

  -- a node that was known as ready goes to the end of the ready ones, which is one place earlier now
  module _ (place r n : ℕ) (nodes : List ℕ) (in_part : place < s.ready) (last : r + 1 ≡ s.ready)
      (at : slice_index s.nodes place ≡ n) (swapped : nodes ≡ swap s.nodes place r) where
    place_low : place < count
    place_low = omega (arith, h.parts, h.within)

    r_low : r < count
    r_low = omega (arith, h.parts, h.within)

    stays : (p : ℕ) → p ≢ place → p ≢ r → slice_index nodes p ≡ slice_index s.nodes p
    stays p other apart = (moved place r nodes place_low r_low swapped).2 p other apart

    pub ready_doubted : Doubts s n (standing nodes r s.idle)
    ready_doubted = record {
      count = same_count place r nodes place_low r_low swapped;
      ready = λ m known. ⊎_elim
          (λ e. let here : slice_index s.nodes r ≡ m = sym (moved place r nodes place_low r_low swapped).0
          ∙ ap (λ p. slice_index nodes p) (sym e) ∙ known.2 in (
            (r, omega arith, here),
            λ same. absurd (omega (arith, known.1, e, node_once r place r_low place_low (here ∙ same ∙ sym at))),
          ))
          (λ other. let here : slice_index s.nodes known.0 ≡ m =
          sym (stays known.0 other (λ e. omega (arith, e, known.1))) ∙ known.2 in (
            (known.0, omega (arith, known.1), here),
            λ same. other (node_once known.0 place (omega (arith, known.1, r_low)) place_low (here ∙ same ∙ sym at)),
          ))
          (cases_eq known.0 place);
      idle = λ m known. let low : known.0 < count =
          omega (arith, known.2, same_count place r nodes place_low r_low swapped) in
          let here : slice_index s.nodes known.0 ≡ m =
          sym (stays known.0 (λ e. omega (arith, e, known.1, h.parts)) (λ e. omega (arith, e, known.1, h.parts)))
          ∙ known.3 in (
            (known.0, known.1, low, here),
            λ same. omega (arith, known.1, h.parts, node_once known.0 place low place_low (here ∙ same ∙ sym at)),
          );
    }

    pub ready_standing : IsStanding (standing nodes r s.idle)
    ready_standing = record {
      parts = omega (arith, h.parts);
      within = omega (arith, h.within, same_count place r nodes place_low r_low swapped);
      all = swapped_all place r nodes place_low r_low swapped;
    }

  -- a node that was known as idle goes to the prefix of the idle ones, which is one place later now
  module _ (place n : ℕ) (nodes : List ℕ) (in_part : s.idle ≤ place) (place_low : place < count)
      (at : slice_index s.nodes place ≡ n) (swapped : nodes ≡ swap s.nodes place s.idle) where
    idle_low : s.idle < count
    idle_low = omega arith

    left : (p : ℕ) → p ≢ place → p ≢ s.idle → slice_index nodes p ≡ slice_index s.nodes p
    left p other apart = (moved place s.idle nodes place_low idle_low swapped).2 p other apart

    pub idle_doubted : Doubts s n (standing nodes s.ready (s.idle + 1))
    idle_doubted = record {
      count = same_count place s.idle nodes place_low idle_low swapped;
      ready = λ m known. let here : slice_index s.nodes known.0 ≡ m =
          sym (left known.0 (λ e. omega (arith, e, known.1, h.parts)) (λ e. omega (arith, e, known.1, h.parts)))
          ∙ known.2 in (
            (known.0, known.1, here),
            λ same. omega (
              arith,
              known.1,
              h.parts,
              node_once known.0 place (omega (arith, known.1, h.parts)) place_low (here ∙ same ∙ sym at),
            ),
          );
      idle = λ m known. let low : known.0 < count =
          omega (arith, known.2, same_count place s.idle nodes place_low idle_low swapped) in
          ⊎_elim
          (λ e. let here : slice_index s.nodes s.idle ≡ m = sym (moved place s.idle nodes place_low idle_low swapped).0
          ∙ ap (λ p. slice_index nodes p) (sym e) ∙ known.3 in (
            (s.idle, omega arith, idle_low, here),
            λ same. omega (arith, known.1, e, node_once s.idle place idle_low place_low (here ∙ same ∙ sym at)),
          ))
          (λ other. let here : slice_index s.nodes known.0 ≡ m =
          sym (left known.0 other (λ e. omega (arith, e, known.1))) ∙ known.3 in (
            (known.0, omega (arith, known.1), low, here),
            λ same. other (node_once known.0 place low place_low (here ∙ same ∙ sym at)),
          ))
          (cases_eq known.0 place);
    }

    pub idle_standing : IsStanding (standing nodes s.ready (s.idle + 1))
    idle_standing = record {
      parts = omega (arith, h.parts);
      within = omega (arith, same_count place s.idle nodes place_low idle_low swapped);
      all = swapped_all place s.idle nodes place_low idle_low swapped;
    }

  -- a node in doubt stays
  pub still_doubted : (place n : ℕ) → s.ready ≤ place → place < s.idle → slice_index s.nodes place ≡ n → Doubts s n s
  still_doubted place n from below at = record {
    count = refl;
    ready = λ m known. (
      known,
      λ same. omega (
        arith,
        known.1,
        h.parts,
        h.within,
        node_once known.0 place (omega (arith, known.1, h.parts, h.within)) (omega (arith, h.within))
            (known.2 ∙ same ∙ sym at),
      ),
    );
    idle = λ m known. (
      known,
      λ same. omega (
        arith,
        known.1,
        node_once known.0 place known.2 (omega (arith, h.within)) (known.3 ∙ same ∙ sym at),
      ),
    );
  }

  -- the last node in doubt becomes the last of the ready ones
  module _ (last : ℕ) (nodes : List ℕ) (in_part : s.ready ≤ last) (next : last + 1 ≡ s.idle)
      (swapped : nodes ≡ swap s.nodes last s.ready) where
    last_low : last < count
    last_low = omega (arith, h.within)

    end_low : s.ready < count
    end_low = omega (arith, h.within)

    keeps : (p : ℕ) → p ≢ last → p ≢ s.ready → slice_index nodes p ≡ slice_index s.nodes p
    keeps p other apart = (moved last s.ready nodes last_low end_low swapped).2 p other apart

    last_is : slice_index s.nodes last ≡ last_in_doubt s
    last_is = let e : last ≡ s.idle - 1 = omega arith in ap (λ p. slice_index s.nodes p) e

    pub ready_settled : Settles s true (standing nodes (s.ready + 1) s.idle)
    ready_settled = record {
      count = same_count last s.ready nodes last_low end_low swapped;
      fewer = omega arith;
      ready = λ m known. ⊎_elim
          (λ e. inr (
            sym known.2 ∙ ap (λ p. slice_index nodes p) e
                ∙ (moved last s.ready nodes last_low end_low swapped).1 ∙ last_is,
            refl,
          ))
          (λ other. inl (
            known.0,
            omega (arith, known.1, other),
            sym (keeps known.0 (λ e. omega (arith, e, known.1, other)) other) ∙ known.2,
          ))
          (cases_eq known.0 s.ready);
      idle = λ m known. inl (
        known.0,
        known.1,
        omega (arith, known.2, same_count last s.ready nodes last_low end_low swapped),
        sym (keeps known.0 (λ e. omega (arith, e, known.1)) (λ e. omega (arith, e, known.1))) ∙ known.3,
      );
    }

    pub settled_standing : IsStanding (standing nodes (s.ready + 1) s.idle)
    settled_standing = record {
      parts = omega arith;
      within = omega (arith, h.within, same_count last s.ready nodes last_low end_low swapped);
      all = swapped_all last s.ready nodes last_low end_low swapped;
    }

  -- or the first of the idle ones
  pub idle_settled : (last : ℕ) → s.ready ≤ last → last + 1 ≡ s.idle → Settles s false (standing s.nodes s.ready last)
  idle_settled last in_part next = record {
    count = refl;
    fewer = omega arith;
    ready = λ m known. inl known;
    idle = λ m known. ⊎_elim
        (λ e. let there : known.0 ≡ s.idle - 1 = omega (arith, e) in
        inr (sym known.3 ∙ ap (λ p. slice_index s.nodes p) there, refl))
        (λ other. inl (known.0, omega (arith, known.1, other), known.2, known.3))
        (cases_eq known.0 last);
  }

-- ---- marks

-- a node that is put into doubt may be marked
pub marked : (s t : Standing) (marks : List Bool) (n : ℕ) → n < length marks → AreMarks s marks → Doubts s n t
    → AreMarks t (slice_set marks n true)
marked s t marks n low h doubts = record {
  count = length-set marks n true ∙ h.count ∙ sym doubts.count;
  ready = λ m is known. let before = doubts.ready m known in
      h.ready m (sym (get_or-set_other marks n m true false before.1) ∙ is) before.0;
  idle = λ m is known. let before = doubts.idle m known in
      h.idle m (sym (get_or-set_other marks n m true false before.1) ∙ is) before.0;
}

-- of a marked node nothing is known
pub marked_doubted : (s : Standing) (marks : List Bool) (n : ℕ) → AreMarks s marks → slice_index_or marks n false ≡ true
    → Doubts s n s
marked_doubted s marks n h is = record {
  count = refl;
  ready = λ m known. (known, λ same. h.ready n is (subst (λ k. IsKnownReady s k) same known));
  idle = λ m known. (known, λ same. h.idle n is (subst (λ k. IsKnownIdle s k) same known));
}

-- a node of which something is known is unmarked
pub unmarked : (s t : Standing) (marks : List Bool) (b : Bool) (n : ℕ) → n ≡ last_in_doubt s → n < length marks
    → AreMarks s marks → Settles s b t → AreMarks t (slice_set marks n false)
unmarked s t marks b n last low h settles = record {
  count = length-set marks n false ∙ h.count ∙ sym settles.count;
  ready = λ m is known. ⊎_elim (λ before. h.ready m (kept m is) before) (λ new. absurd (here m is (new.0 ∙ sym last)))
      (settles.ready m known);
  idle = λ m is known. ⊎_elim (λ before. h.idle m (kept m is) before) (λ new. absurd (here m is (new.0 ∙ sym last)))
      (settles.idle m known);
}
  where
    here : (m : ℕ) → slice_index_or (slice_set marks n false) m false ≡ true → m ≢ n
    here m is same =
        false≢true (sym (get_or-set_same marks n false false low)
        ∙ ap (λ k. slice_index_or (slice_set marks n false) k false) (sym same) ∙ is)

    kept : (m : ℕ) → slice_index_or (slice_set marks n false) m false ≡ true → slice_index_or marks m false ≡ true
    kept m is = sym (get_or-set_other marks n m false false (here m is)) ∙ is

-- a node that is found is exchanged for one at the edge of its part, and marked
module _ (s : Standing) (marks : List Bool) (place n : ℕ) (h : IsStanding s × AreMarks s marks)
    (low : n < length s.nodes) (found : position (nat_eq n) s.nodes ≡ Some place) where
  abbrev IsMarked : Standing → Type 0
  IsMarked t = Doubts s n t × (IsStanding t × AreMarks t (slice_set marks n true))

  there : place < length s.nodes
  there = (position-Some (nat_eq n) s.nodes place 0 found).0

  at : slice_index s.nodes place ≡ n
  at = sym (eqb-true _ _ (position-Some (nat_eq n) s.nodes place 0 found).1)

  markable : n < length marks
  markable = omega (arith, h.1.count)

  pub doubt_ready : (r : ℕ) (nodes : List ℕ) → place < s.ready → r + 1 ≡ s.ready → nodes ≡ swap s.nodes place r
      → IsMarked (standing nodes r s.idle)
  doubt_ready r nodes in_part last swapped =
      let doubts = ready_doubted s h.0 place r n nodes in_part last at swapped in (
        doubts,
        (
          ready_standing s h.0 place r n nodes in_part last at swapped,
          marked s (standing nodes r s.idle) marks n markable h.1 doubts,
        ),
      )

  pub doubt_idle : (nodes : List ℕ) → s.idle ≤ place → nodes ≡ swap s.nodes place s.idle
      → IsMarked (standing nodes s.ready (s.idle + 1))
  doubt_idle nodes in_part swapped =
      let doubts = idle_doubted s h.0 place n nodes in_part there at swapped in (
        doubts,
        (
          idle_standing s h.0 place n nodes in_part there at swapped,
          marked s (standing nodes s.ready (s.idle + 1)) marks n markable h.1 doubts,
        ),
      )

  pub doubt_again : s.ready ≤ place → place < s.idle → IsMarked s
  doubt_again from below =
      let doubts = still_doubted s h.0 place n from below at in
      (doubts, (h.0, marked s s marks n markable h.1 doubts))

-- the last node in doubt is settled, and unmarked
module _ (s : Standing) (marks : List Bool) (last : ℕ) (h : IsStanding s × AreMarks s marks) (from : s.ready ≤ last)
    (next : last + 1 ≡ s.idle) where
  abbrev IsSettled : Bool → Standing → Type 0
  IsSettled b t = Settles s b t × (IsStanding t × AreMarks t (slice_set marks (slice_index s.nodes last) false))

  pub last_marked : slice_index s.nodes last < length marks
  last_marked = omega (arith, h.1.count, node_below s h.0 last (omega (arith, h.0.within)))

  here : slice_index s.nodes last ≡ last_in_doubt s
  here = let e : last ≡ s.idle - 1 = omega arith in ap (λ p. slice_index s.nodes p) e

  pub settle_ready : (nodes : List ℕ) → nodes ≡ swap s.nodes last s.ready
      → IsSettled true (standing nodes (s.ready + 1) s.idle)
  settle_ready nodes swapped =
      let t = standing nodes (s.ready + 1) s.idle in
      let settles = ready_settled s h.0 last nodes from next swapped in (
        settles,
        (
          settled_standing s h.0 last nodes from next swapped,
          unmarked s t marks true (slice_index s.nodes last) here last_marked h.1 settles,
        ),
      )

  pub settle_idle : IsSettled false (standing s.nodes s.ready last)
  settle_idle =
      let t = standing s.nodes s.ready last in
      let settles = idle_settled s h.0 last from next in (
        settles,
        (
          record { parts = from; within = omega (arith, h.0.within); all = h.0.all },
          unmarked s t marks false (slice_index s.nodes last) here last_marked h.1 settles,
        ),
      )

-- each node is found
pub node_found : (s : Standing) (n : ℕ) → IsStanding s → n < length s.nodes → list_any (nat_eq n) s.nodes ≡ true
node_found s n h low =
    let at = node_placed s h n low in
    list_any_at (nat_eq n) s.nodes at.0 0 at.1 (eq-eqb _ _ (sym at.2))

-- ---- all nodes, one after another

range_more : (a n : ℕ) → range_with_len a (suc n) ≡ range_with_len a n ++ (a + n) ∷ []
range_more a zero = let e : a ≡ a + 0 = omega arith in ap (λ k. k ∷ []) e
range_more a (suc n) =
    let e : a + 1 + n ≡ a + suc n = omega arith in
    ap (λ ns. a ∷ ns) (range_more (a + 1) n ∙ ap (λ k. range_with_len (a + 1) n ++ k ∷ []) e)

-- the next one is put last
pub next_node : (n : ℕ) (before after : List ℕ) → before ≡ range_with_len 0 n → after ≡ insert_key nat_eq before n
    → after ≡ range_with_len 0 (n + 1)
next_node n before after so_far put =
    let new : list_any (nat_eq n) (range_with_len 0 n) ≡ false =
    list_any_none (nat_eq n) (range_with_len 0 n)
    (λ k d short. let small : k < n = subst (λ m. k < m) (length-range_with_len 0 n) short in
    ne_eqb _ _ (λ e. omega (arith, e, get_or-range_with_len 0 n k d small))) in
    put ∙ ap (λ ns. insert_key nat_eq ns n) so_far
    ∙ ap (λ b. cond b (range_with_len 0 n) (range_with_len 0 n ++ n ∷ [])) new
    ∙ sym (range_more 0 n ∙ ap (λ k. range_with_len 0 n ++ k ∷ []) (zero-add n))
    ∙ ap (range_with_len 0) (sym (add-one n))

-- as many nodes, none of which is known and none marked
pub none_known : (n : ℕ) (nodes : List ℕ) (marks : List Bool) → nodes ≡ range_with_len 0 n → length marks ≡ n
    → IsStanding (standing nodes 0 n) × AreMarks (standing nodes 0 n) marks
none_known n nodes marks all same =
    let count : length nodes ≡ n = ap length all ∙ length-range_with_len 0 n in (
      record {
        parts = omega arith;
        within = omega (arith, count);
        all = subst (λ ns. IsPermutation ns nodes) (all ∙ ap (range_with_len 0) (sym count)) (IsPermutation-refl nodes);
      },
      record {
        count = same ∙ sym count;
        ready = λ m is known. absurd (omega (arith, known.1));
        idle = λ m is known. absurd (omega (arith, known.1, known.2, count));
      },
    )
