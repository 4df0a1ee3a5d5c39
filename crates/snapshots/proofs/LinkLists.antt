-- The links of a graph, as a list: each once, in order, between different nodes.
use Rattle.std.proofs.Common.{◌≡◌, ◌≢◌, ℕ, ◌<◌, Bool, true, false, ◌&&◌, ◌||◌, ◌==◌, List, [], ◌∷◌, ◌++◌, filter, map, cond}
use Rattle.std.proofs.Common.{refl, sym, ap, ap₂, ◌∙◌, subst, true≢false, arith, nat_lt, ◌⊎◌, inl, inr, ⊎_elim, length}
use Rattle.std.proofs.Common.{suc, ◌≤◌, slice_index_or, AllPairs}
use Rattle.std.proofs.lemmas.Bool.Decides.{nat_tests}
use Rattle.std.specs.Cmp.{both_ways}
use Rattle.std.specs.List.{AllByRecursion, flat_map, list_any}
use Rattle.std.specs.List.Sorted.{IsStrictlyIncreasing}
use Rattle.std.proofs.lemmas.Bool.{and_from, cases_lt, eq-eqb, eqb-true, false_from_ne_true, lt-ltb, or_cases, or_left}
use Rattle.std.proofs.lemmas.Bool.{or_right}
use Rattle.std.proofs.lemmas.List.Folds.{list_any-append}
use Rattle.std.proofs.lemmas.List.Kept.{AllPairs-from_increasing}
use Rattle.topology.specs.Building.{joins}
use Rattle.topology.specs.Graph.{Graph, IsGraph, are_linked, has, neighbours_of}
use Rattle.topology.proofs.Inserting.{joins_ends, joins_own}
use Rattle.topology.proofs.Membership.{has-Contains, has-filter}
use Rattle.script_replay.specs.Output.{links_of}

-- ---- lists each of whose items has a property, and lists in order

module _ {X : Type 0} (P : X → Type 0) where
  each_append : (xs ys : List X) → AllByRecursion P xs → AllByRecursion P ys → AllByRecursion P (xs ++ ys)
  each_append [] ys h k = k
  each_append (x ∷ xs) ys h k = (h.0, each_append xs ys h.1 k)

  pub each_middle : (xs : List X) (y : X) (ys : List X) → AllByRecursion P (xs ++ y ∷ ys) → P y
  each_middle [] y ys h = h.0
  each_middle (x ∷ xs) y ys h = each_middle xs y ys h.1

  each_found : (p : X → Bool) (xs : List X) → AllByRecursion P xs → list_any p xs ≡ true → (x : X) × P x × (p x ≡ true)
  each_found p [] h e = absurd (true≢false (sym e))
  each_found p (x ∷ xs) h e =
      ⊎_elim (λ here. (x, h.0, here)) (λ later. each_found p xs h.1 later) (or_cases (p x) (list_any p xs) e)

  each_filter : (p : X → Bool) (xs : List X) → AllByRecursion P xs → AllByRecursion P (filter p xs)
  each_filter p [] h = tt
  each_filter p (x ∷ xs) h = at (p x) (each_filter p xs h.1)
    where
      at : (b : Bool) → AllByRecursion P (filter p xs) → AllByRecursion P (cond b (x ∷ filter p xs) (filter p xs))
      at true rest = (h.0, rest)
      at false rest = rest

  each_flat_map : {Y : Type 0} (f : Y → List X) (ys : List Y) → AllByRecursion (λ y. AllByRecursion P (f y)) ys
      → AllByRecursion P (flat_map f ys)
  each_flat_map f [] h = tt
  each_flat_map f (y ∷ ys) h = each_append (f y) (flat_map f ys) h.0 (each_flat_map f ys h.1)

pub each_weaker : {X : Type 0} (P Q : X → Type 0) → ((x : X) → P x → Q x) → (xs : List X) → AllByRecursion P xs
    → AllByRecursion Q xs
each_weaker P Q to [] h = tt
each_weaker P Q to (x ∷ xs) h = (to x h.0, each_weaker P Q to xs h.1)

each_map : {X Y : Type 0} (P : Y → Type 0) (f : X → Y) (xs : List X) → AllByRecursion (λ x. P (f x)) xs
    → AllByRecursion P (map f xs)
each_map P f [] h = tt
each_map P f (x ∷ xs) h = (h.0, each_map P f xs h.1)

-- what passes the test of a filter
passing : {X : Type 0} (p : X → Bool) (xs : List X) → AllByRecursion (λ x. p x ≡ true) (filter p xs)
passing p [] = tt
passing {X} p (x ∷ xs) = at (p x) refl (passing p xs)
  where
    at : (b : Bool) → p x ≡ b → AllByRecursion (λ y. p y ≡ true) (filter p xs)
        → AllByRecursion (λ y. p y ≡ true) (cond b (x ∷ filter p xs) (filter p xs))
    at true here rest = (here, rest)
    at false here rest = rest

both : {X : Type 0} (P Q : X → Type 0) (xs : List X) → AllByRecursion P xs → AllByRecursion Q xs
    → AllByRecursion (λ x. P x × Q x) xs
both P Q [] h k = tt
both P Q (x ∷ xs) h k = ((h.0, k.0), both P Q xs h.1 k.1)

-- each item comes before all later ones
abbrev pub AreOrdered : {X : Type 0} → (X → X → Type 0) → List X → Type 0
AreOrdered R [] = Unit {0}
AreOrdered R (x ∷ xs) = AllByRecursion (R x) xs × AreOrdered R xs

ordered_filter : {X : Type 0} (R : X → X → Type 0) (p : X → Bool) (xs : List X) → AreOrdered R xs
    → AreOrdered R (filter p xs)
ordered_filter R p [] h = tt
ordered_filter R p (x ∷ xs) h = at (p x) (ordered_filter R p xs h.1)
  where
    at : (b : Bool) → AreOrdered R (filter p xs) → AreOrdered R (cond b (x ∷ filter p xs) (filter p xs))
    at true rest = (each_filter (R x) p xs h.0, rest)
    at false rest = rest

ordered_map : {X Y : Type 0} (R : X → X → Type 0) (S : Y → Y → Type 0) (f : X → Y)
    → ((x y : X) → R x y → S (f x) (f y)) → (xs : List X) → AreOrdered R xs → AreOrdered S (map f xs)
ordered_map R S f to [] h = tt
ordered_map R S f to (x ∷ xs) h =
    (each_map (S (f x)) f xs (each_weaker (R x) (λ y. S (f x) (f y)) (to x) xs h.0), ordered_map R S f to xs h.1)

ordered_append : {X : Type 0} (R : X → X → Type 0) (xs ys : List X) → AreOrdered R xs → AreOrdered R ys
    → AllByRecursion (λ x. AllByRecursion (R x) ys) xs → AreOrdered R (xs ++ ys)
ordered_append R [] ys h k across = k
ordered_append R (x ∷ xs) ys h k across =
    (each_append (R x) xs ys h.0 across.0, ordered_append R xs ys h.1 k across.1)

later : {X : Type 0} (P : X → Type 0) (xs : List X) → ((k : ℕ) (d : X) → k < length xs → P (slice_index_or xs k d))
    → AllByRecursion P xs
later P [] h = tt
later P (x ∷ xs) h = (h 0 x (omega arith), later P xs (λ k d within. h (suc k) d (omega (arith, within))))

ordered_pairs : {X : Type 0} (R : X → X → Type 0) (xs : List X) → AllPairs R xs → AreOrdered R xs
ordered_pairs R [] h = tt
ordered_pairs R (x ∷ xs) h = (
  later (R x) xs (λ k d within. h 0 (suc k) d (omega arith) (omega (arith, within))),
  ordered_pairs R xs (λ i j d below within. h (suc i) (suc j) d (omega (arith, below)) (omega (arith, within))),
)

pub ordered_ids : (xs : List ℕ) → IsStrictlyIncreasing xs → AreOrdered (λ x y. x < y) xs
ordered_ids xs up = ordered_pairs (λ x y. x < y) xs (AllPairs-from_increasing xs up)

-- ---- the links of a graph

-- the pair is a link, its lesser end first
abbrev pub IsLink : Graph → ℕ × ℕ → Type 0
IsLink g l = (l.0 < l.1) × (are_linked g l.0 l.1 ≡ true)

-- by the first ends, and then by the second ones
abbrev pub IsBefore : ℕ × ℕ → ℕ × ℕ → Type 0
IsBefore l m = (l.0 < m.0) ⊎ ((l.0 ≡ m.0) × (l.1 < m.1))

lt-true : (i j : ℕ) → nat_lt i j ≡ true → i < j
lt-true i j h = grind (arith, nat_tests)

module _ (g : Graph) (are : IsGraph g) where
  abbrev up_from : ℕ → List ℕ
  up_from i = filter (nat_lt i) (neighbours_of g i)

  abbrev links_at : ℕ → List (ℕ × ℕ)
  links_at i = map (λ j. (i, j)) (up_from i)

  -- each link at i begins with i
  at_end : (i : ℕ) → AllByRecursion (λ (l : ℕ × ℕ). (l.0 ≡ i) × IsLink g l) (links_at i)
  at_end i =
      each_map (λ (l : ℕ × ℕ). (l.0 ≡ i) × IsLink g l) (λ j. (i, j)) (up_from i)
      (each_weaker (λ j. (nat_lt i j ≡ true) × (are_linked g i j ≡ true)) (λ j. (i ≡ i) × ((i < j) × (are_linked g i j ≡ true)))
      (λ j h. (refl, (lt-true i j h.0, h.1))) (up_from i)
      (both (λ j. nat_lt i j ≡ true) (λ j. are_linked g i j ≡ true) (up_from i) (passing (nat_lt i) (neighbours_of g i))
      (each_filter (λ j. are_linked g i j ≡ true) (nat_lt i) (neighbours_of g i) (passing (are_linked g i) g.ids))))

  each_at : (is : List ℕ) → AllByRecursion (λ i. AllByRecursion (IsLink g) (links_at i)) is
  each_at [] = tt
  each_at (i ∷ is) = (
    each_weaker (λ (l : ℕ × ℕ). (l.0 ≡ i) × IsLink g l) (IsLink g) (λ l h. h.1) (links_at i) (at_end i),
    each_at is,
  )

  pub are_links : AllByRecursion (IsLink g) (links_of g)
  are_links = each_flat_map (IsLink g) links_at g.nodes (each_at g.nodes)

  -- the links at one node are in order
  ordered_at : (i : ℕ) → AreOrdered IsBefore (links_at i)
  ordered_at i =
      ordered_map (λ x y. x < y) IsBefore (λ j. (i, j)) (λ x y below. inr (refl, below)) (up_from i)
      (ordered_filter (λ x y. x < y) (nat_lt i) (neighbours_of g i)
      (ordered_filter (λ x y. x < y) (are_linked g i) g.ids (ordered_ids g.ids are.ascending)))

  -- and come before those at greater ones
  before_all : (l : ℕ × ℕ) (is : List ℕ) → AllByRecursion (λ k. l.0 < k) is
      → AllByRecursion (λ k. AllByRecursion (IsBefore l) (links_at k)) is
  before_all l [] below = tt
  before_all l (k ∷ is) below = (
    each_weaker (λ (m : ℕ × ℕ). (m.0 ≡ k) × IsLink g m) (IsBefore l)
        (λ m h. inl (omega (arith, below.0, h.0))) (links_at k) (at_end k),
    before_all l is below.1,
  )

  ordered_from : (is : List ℕ) → AreOrdered (λ x y. x < y) is → AreOrdered IsBefore (flat_map links_at is)
  ordered_from [] up = tt
  ordered_from (i ∷ is) up =
      ordered_append IsBefore (links_at i) (flat_map links_at is) (ordered_at i) (ordered_from is up.1)
      (each_weaker (λ (l : ℕ × ℕ). (l.0 ≡ i) × IsLink g l) (λ l. AllByRecursion (IsBefore l) (flat_map links_at is))
      (λ l h. each_flat_map (IsBefore l) links_at is
      (before_all l is
      (each_weaker (λ k. i < k) (λ k. l.0 < k) (λ k low. omega (arith, low, h.0)) is up.0))) (links_at i) (at_end i))

  pub are_ordered : AreOrdered IsBefore (links_of g)
  are_ordered = ordered_from g.nodes (ordered_ids g.nodes are.rising)

  -- a link joins no ends of one that comes before it
  apart : (l m : ℕ × ℕ) → IsLink g l → IsLink g m → IsBefore l m → joins m.0 m.1 l ≡ false
  apart l m l_is m_is (inl low) =
      false_from_ne_true (joins m.0 m.1 l)
      (λ e. ⊎_elim (λ (p : (l.0 ≡ m.0) × (l.1 ≡ m.1)). omega (arith, low, p.0))
      (λ (p : (l.0 ≡ m.1) × (l.1 ≡ m.0)). omega (arith, low, p.0, p.1, m_is.0)) (joins_ends m.0 m.1 l e))
  apart l m l_is m_is (inr next) =
      false_from_ne_true (joins m.0 m.1 l)
      (λ e. ⊎_elim (λ (p : (l.0 ≡ m.0) × (l.1 ≡ m.1)). omega (arith, next.1, p.1))
      (λ (p : (l.0 ≡ m.1) × (l.1 ≡ m.0)). omega (arith, next.0, p.0, p.1, m_is.0)) (joins_ends m.0 m.1 l e))

  -- so each is new after those before it
  pub is_new : (done : List (ℕ × ℕ)) (l : ℕ × ℕ) (links : List (ℕ × ℕ)) → AllByRecursion (IsLink g) (done ++ l ∷ links)
      → AreOrdered IsBefore (done ++ l ∷ links) → list_any (joins l.0 l.1) done ≡ false
  is_new [] l links each order = refl
  is_new (m ∷ done) l links each order =
      ap₂ (λ s t. s || t)
      (apart m l each.0 (each_middle (IsLink g) done l links each.1) (each_middle (IsBefore m) done l links order.0))
      (is_new done l links each.1 order.1)

  -- ---- they are all links

  any_flat_map : (p : ℕ × ℕ → Bool) (is : List ℕ) (i : ℕ) → has is i ≡ true → list_any p (links_at i) ≡ true
      → list_any p (flat_map links_at is) ≡ true
  any_flat_map p [] i there found = absurd (true≢false (sym there))
  any_flat_map p (k ∷ is) i there found =
      list_any-append p (links_at k) (flat_map links_at is)
      ∙ ⊎_elim
      (λ here. or_left (list_any p (links_at k)) (list_any p (flat_map links_at is))
      (ap (λ n. list_any p (links_at n)) (eqb-true k i here) ∙ found))
      (λ later. or_right (list_any p (links_at k)) (list_any p (flat_map links_at is)) (any_flat_map p is i later found))
      (or_cases (k == i) (has is i) there)

  any_map : (p : ℕ × ℕ → Bool) (i : ℕ) (js : List ℕ) (j : ℕ) → has js j ≡ true → p (i, j) ≡ true
      → list_any p (map (λ k. (i, k)) js) ≡ true
  any_map p i [] j there passes = absurd (true≢false (sym there))
  any_map p i (k ∷ js) j there passes =
      ⊎_elim
      (λ here. or_left (p (i, k)) (list_any p (map (λ n. (i, n)) js)) (ap (λ n. p (i, n)) (eqb-true k j here) ∙ passes))
      (λ later. or_right (p (i, k)) (list_any p (map (λ n. (i, n)) js)) (any_map p i js j later passes))
      (or_cases (k == j) (has js j) there)

  upward : (p : ℕ × ℕ → Bool) (i j : ℕ) → i < j → are_linked g i j ≡ true → p (i, j) ≡ true
      → list_any p (links_of g) ≡ true
  upward p i j low linked passes =
      let known : has g.ids j ≡ true =
      has-Contains g.ids j (are.within j (are.ends j i (sym (are.symmetric i j) ∙ linked))) in
      let near : has (up_from i) j ≡ true =
      has-filter (nat_lt i) (neighbours_of g i) j
      ∙ and_from (nat_lt i j) (has (neighbours_of g i) j) (lt-ltb i j low)
      (has-filter (are_linked g i) g.ids j ∙ and_from (are_linked g i j) (has g.ids j) linked known) in
      any_flat_map p g.nodes i (has-Contains g.nodes i (are.ends i j linked)) (any_map p i (up_from i) j near passes)

  turned_own : (a b : ℕ) → joins a b (b, a) ≡ true
  turned_own a b =
      or_right (b == a && a == b) (b == b && a == a) (ap₂ (λ s t. s && t) (eq-eqb b b refl) (eq-eqb a a refl))

  pub joined_links : (a b : ℕ) → list_any (joins a b) (links_of g) ≡ are_linked g a b
  joined_links a b =
      both_ways (list_any (joins a b) (links_of g)) (are_linked g a b)
      (λ e.
      let found = each_found (IsLink g) (joins a b) (links_of g) are_links e in
      let linked : are_linked g found.0.0 found.0.1 ≡ true = found.1.1 in
      ⊎_elim
      (λ (p : (found.0.0 ≡ a) × (found.0.1 ≡ b)). sym (ap₂ (λ x y. are_linked g x y) p.0 p.1) ∙ linked)
      (λ (p : (found.0.0 ≡ b) × (found.0.1 ≡ a)).
      are.symmetric a b ∙ (sym (ap₂ (λ x y. are_linked g x y) p.0 p.1) ∙ linked))
      (joins_ends a b found.0 found.2))
      (λ linked. ⊎_elim
      (λ low. upward (joins a b) a b low linked (joins_own a b))
      (λ high. upward (joins a b) b a (less a b high linked) (sym (are.symmetric a b) ∙ linked) (turned_own a b))
      (cases_lt a b))
    where
      less : (i j : ℕ) → j ≤ i → are_linked g i j ≡ true → j < i
      less i j high linked =
          let other : i ≢ j = λ same. are.irreflexive j (subst (λ k. are_linked g k j ≡ true) same linked) in
          omega (arith, high, other)
