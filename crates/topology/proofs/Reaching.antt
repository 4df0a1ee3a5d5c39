-- What the test of what is reached tells of walks.
use Rattle.std.proofs.Common.{◌≡◌, ℕ, zero, suc, ◌+◌, ◌<◌, ◌≤◌, Bool, true, false, cond, not, ◌&&◌, ◌⊎◌, inl, inr}
use Rattle.std.proofs.Common.{List, [], ◌∷◌, ◌++◌, length, count_by, refl, sym, ap, subst, ◌∙◌, arith}
use Rattle.std.proofs.Common.{true≢false, ⊎_elim, eqb-true, eq-eqb}
use Rattle.std.specs.List.{list_any}
use Rattle.std.proofs.lemmas.Bool.{and_from, and_parts, cases_Bool, or_cases, or_left, or_right}
use Rattle.std.proofs.lemmas.List.Folds.{Any-from_list_any, list_any-from_Any}
use Rattle.std.proofs.lemmas.List.Sums.{count_by-le-length, sum_by-cons}
use Rattle.topology.specs.Graph.{Graph, are_linked, AreLinked, IsGraph, IsNode, IsReached, IsWalk}
use Rattle.topology.specs.Reaching.{is_reached}
use Rattle.topology.proofs.Walks.{linked_back, walk_on}

-- ---- how many pass a test

count_first : (p : ℕ → Bool) (x : ℕ) (xs : List ℕ) → count_by p (x ∷ xs) ≡ cond (p x) 1 0 + count_by p xs
count_first p x xs = sum_by-cons (λ y. cond (p y) 1 0) x xs

counts_weaker : (b c : Bool) → (b ≡ true → c ≡ true) → cond b 1 0 ≤ cond c 1 0
counts_weaker true true to = omega arith
counts_weaker true false to = absurd (true≢false (sym (to refl)))
counts_weaker false c to = omega arith

counts_new : (b c : Bool) → (c && not b) ≡ true → cond b 1 0 < cond c 1 0
counts_new false true e = omega arith
counts_new false false e = absurd (true≢false (sym e))
counts_new true true e = absurd (true≢false (sym e))
counts_new true false e = absurd (true≢false (sym e))

module _ (p q : ℕ → Bool) (to : (x : ℕ) → p x ≡ true → q x ≡ true) where
  count_weaker : (xs : List ℕ) → count_by p xs ≤ count_by q xs
  count_weaker [] = omega arith
  count_weaker (x ∷ xs) =
      omega (arith, count_first p x xs, count_first q x xs, counts_weaker (p x) (q x) (to x), count_weaker xs)

  -- where one passes the weaker test alone, more pass it
  count_more : (xs : List ℕ) → list_any (λ y. q y && not (p y)) xs ≡ true → count_by p xs < count_by q xs
  count_more [] e = absurd (true≢false (sym e))
  count_more (x ∷ xs) e =
      ⊎_elim
      (λ here. omega (arith, count_first p x xs, count_first q x xs, counts_new (p x) (q x) here, count_weaker xs))
      (λ later.
      omega (arith, count_first p x xs, count_first q x xs, counts_weaker (p x) (q x) (to x), count_more xs later))
      (or_cases (q x && not (p x)) (list_any (λ y. q y && not (p y)) xs) e)

-- ---- what is reached

module _ (g : Graph) (a : ℕ) where
  -- a link leads to b from what is reached
  abbrev leads_to : ℕ → ℕ → ℕ → Bool
  leads_to count b c = is_reached g a c count && are_linked g c b

  -- a walk leads to what the test tells
  pub walk_from_test : (count b : ℕ) → is_reached g a b count ≡ true → IsReached g a b
  walk_from_test zero b e = ([], eqb-true a b e)
  walk_from_test (suc count) b e =
      ⊎_elim (walk_from_test count b)
      (λ last.
      let at = Any-from_list_any (leads_to count b) g.ids last in
      let c : ℕ = at.1 in
      let parts = and_parts (is_reached g a c count) (are_linked g c b) at.4 in
      let before = walk_from_test count c parts.0 in
      (before.0 ++ b ∷ [], walk_on g a c b before.0 (b ∷ []) before.1 (parts.1, refl)))
      (or_cases (is_reached g a b count) (list_any (leads_to count b) g.ids) e)

  reached_later : (count b : ℕ) → is_reached g a b count ≡ true → is_reached g a b (suc count) ≡ true
  reached_later count b e = or_left (is_reached g a b count) (list_any (leads_to count b) g.ids) e

  reached_here : (count : ℕ) → is_reached g a a count ≡ true
  reached_here zero = eq-eqb a a refl
  reached_here (suc count) = reached_later count a (reached_here count)

  -- no link leads out of what is reached
  abbrev IsClosed : ℕ → Type 0
  IsClosed count = (b c : ℕ) → is_reached g a b count ≡ true → AreLinked g b c → is_reached g a c count ≡ true

  closed_walk : (count : ℕ) → IsClosed count → (b c : ℕ) (cs : List ℕ) → is_reached g a b count ≡ true
      → IsWalk g b cs c → is_reached g a c count ≡ true
  closed_walk count closed b c [] e w = subst (λ x. is_reached g a x count ≡ true) w e
  closed_walk count closed b c (x ∷ xs) e w = closed_walk count closed x c xs (closed b x e w.0) w.1

  -- one link later nothing more is reached
  closed_later : (count : ℕ) → IsClosed count → IsClosed (suc count)
  closed_later count closed b c e linked =
      let before : is_reached g a b count ≡ true =
      ⊎_elim (λ same. same)
      (λ last.
      let at = Any-from_list_any (leads_to count b) g.ids last in
      let parts = and_parts (is_reached g a at.1 count) (are_linked g at.1 b) at.4 in
      closed at.1 b parts.0 parts.1)
      (or_cases (is_reached g a b count) (list_any (leads_to count b) g.ids) e) in
      reached_later count c (closed b c before linked)

  module _ (are : IsGraph g) where
    one_link_on : (count b c : ℕ) → is_reached g a b count ≡ true → AreLinked g b c
        → is_reached g a c (suc count) ≡ true
    one_link_on count b c e linked =
        let at = are.within b (are.ends b c linked) in
        or_right (is_reached g a c count) (list_any (leads_to count c) g.ids)
        (list_any-from_Any (leads_to count c) g.ids
        (at.0, b, at.1, at.2, and_from (is_reached g a b count) (are_linked g b c) e linked))

    abbrev is_new : ℕ → ℕ → Bool
    is_new count b = is_reached g a b (suc count) && not (is_reached g a b count)

    -- where no node is new, no link leads out
    closed_if_none_new : (count : ℕ) → list_any (is_new count) g.ids ≡ false → IsClosed count
    closed_if_none_new count none b c e linked =
        let at = are.within c (are.ends c b (linked_back g are b c linked)) in
        ⊎_elim (λ same. same)
        (λ new.
        let later = one_link_on count b c e linked in
        let is = and_from (is_reached g a c (suc count)) (not (is_reached g a c count)) later (ap not new) in
        absurd (true≢false (sym (list_any-from_Any (is_new count) g.ids (at.0, c, at.1, at.2, is)) ∙ none)))
        (cases_Bool (is_reached g a c count))

    -- with each link more nodes are reached, until no link leads out
    closed_or_more : IsNode g a → (count : ℕ) → (count < count_by (λ b. is_reached g a b count) g.ids) ⊎ IsClosed count
    closed_or_more a_in zero =
        let here = and_from (is_reached g a a 0) true (reached_here 0) refl in
        let at = are.within a a_in in
        let some = list_any-from_Any (λ b. is_reached g a b 0 && true) g.ids (at.0, a, at.1, at.2, here) in
        let none : ℕ → Bool = λ b. false in
        inl (omega (arith, count_more none (λ b. is_reached g a b 0) (λ b e. absurd (true≢false (sym e))) g.ids some))
    closed_or_more a_in (suc count) =
        let before : ℕ → Bool = λ b. is_reached g a b count in
        let now : ℕ → Bool = λ b. is_reached g a b (suc count) in
        ⊎_elim
        (λ many.
        ⊎_elim
        (λ some. inl (omega (arith, many, count_more before now (reached_later count) g.ids some)))
        (λ none. inr (closed_later count (closed_if_none_new count none)))
        (cases_Bool (list_any (is_new count) g.ids)))
        (λ closed. inr (closed_later count closed))
        (closed_or_more a_in count)

    closed_at_length : IsNode g a → IsClosed (length g.ids)
    closed_at_length a_in =
        ⊎_elim (λ many. absurd (omega (arith, many, count_by-le-length (λ b. is_reached g a b (length g.ids)) g.ids)))
        (λ closed. closed) (closed_or_more a_in (length g.ids))

    pub test_from_walk : IsNode g a → (b : ℕ) → IsReached g a b → is_reached g a b (length g.ids) ≡ true
    test_from_walk a_in b r =
        closed_walk (length g.ids) (closed_at_length a_in) a b r.0 (reached_here (length g.ids)) r.1
