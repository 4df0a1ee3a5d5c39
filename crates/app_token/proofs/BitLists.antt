-- An ascending list after a removal or an insertion at the place that a binary search finds.
use Rattle.std.proofs.Common.{◌≡◌, ◌≢◌, ℕ, zero, suc, ◌<◌, Bool, true, false, not, ltb, eqb, List, [], ◌∷◌, ◌++◌}
use Rattle.std.proofs.Common.{length, get_or, take, drop, insert, All, Ok, Err, refl, sym, ap, ap₂, ◌∙◌, subst, arith}
use Rattle.std.proofs.Common.{nat_cmp, eq-eqb, ne_eqb, lt-ltb, le-ltb}
use Rattle.std.specs.List.{filter, remove}
use Rattle.std.specs.List.Sorted.{IsBinarySearchResult}
use Rattle.std.proofs.lemmas.List.Elements.{All-append, All-filter}
use Rattle.std.proofs.lemmas.List.Kept.{IsStrictlyIncreasing-filter}
use Rattle.topology.specs.Graph.{has}
use Rattle.topology.specs.Id.{IsId}
use Rattle.topology.proofs.Ascending.{finds, member_by_search, index_once}
use Rattle.topology.proofs.Inserting.{inserted}
use Rattle.app_interface.proofs.KeptByIndex.{keeps_all, keeps_back, keeps_prefix}
use Rattle.app_interface.proofs.ListEnds.{all_one}
use Rattle.app_token.specs.Bits.{IsBits, toggled, without_id}

-- what passes everywhere but at one place
keeps_others : (p : ℕ → Bool) (xs : List ℕ) (i : ℕ) → i < length xs → p (get_or xs i 0) ≡ false →
    ((k : ℕ) → k ≢ i → k < length xs → p (get_or xs k 0) ≡ true) → filter p xs ≡ remove xs i
keeps_others p [] i lt here others = absurd (omega arith)
keeps_others p (x ∷ xs) zero lt here others =
    rw here (keeps_all p xs 0 (λ k lt. others (suc k) (omega arith) (omega arith)))
keeps_others p (x ∷ xs) (suc i) lt here others =
    rw (others 0 (omega arith) (omega arith))
    (ap (λ l. x ∷ l)
    (keeps_others p xs i (omega arith) here (λ k ne lt. others (suc k) (omega (arith, ne)) (omega arith))))

module _ (xs : List ℕ) (x : ℕ) (are : IsBits xs) where
  pub removed : (i : ℕ) → IsBinarySearchResult {X = ℕ} (λ y. nat_cmp y x) xs (Ok i) → remove xs i ≡ toggled xs x
  removed i h =
      let place = finds xs x are.ascending (Ok i) h in
      let there : true ≡ has xs x = member_by_search xs x are.ascending (Ok i) h in
      let left : without_id xs x ≡ remove xs i =
      keeps_others (λ y. not (eqb y x)) xs i place.0 (ap not (eq-eqb _ _ place.1))
      (λ k ne lt. ap not (ne_eqb _ _ (λ e. ne (index_once xs are.ascending k i lt place.0 (e ∙ sym place.1))))) in
      rw (← there) (sym left)

  pub IsBits-removed : (i : ℕ) → IsBinarySearchResult {X = ℕ} (λ y. nat_cmp y x) xs (Ok i) → IsBits (remove xs i)
  IsBits-removed i h =
      let there : true ≡ has xs x = member_by_search xs x are.ascending (Ok i) h in
      let p : ℕ → Bool = λ y. not (eqb y x) in
      let kept : IsBits (without_id xs x) =
      record {
        ascending = IsStrictlyIncreasing-filter p xs are.ascending;
        are_ids = All-filter p IsId xs are.are_ids;
      } in
      subst IsBits (sym (removed i h ∙ rw (← there) refl)) kept

  pub put_in : (i : ℕ) → IsBinarySearchResult {X = ℕ} (λ y. nat_cmp y x) xs (Err i) → insert xs i x ≡ toggled xs x
  put_in i h =
      let place = finds xs x are.ascending (Err i) h in
      let absent : false ≡ has xs x = member_by_search xs x are.ascending (Err i) h in
      let lesser : filter (λ y. ltb y x) xs ≡ take i xs =
      keeps_prefix (λ y. ltb y x) xs i 0 place.0 (λ k lt. lt-ltb _ _ (place.1 k lt))
      (λ k ge lt. le-ltb _ _ (omega (arith, place.2 k ge lt))) in
      let greater : filter (λ y. ltb x y) xs ≡ drop i xs =
      keeps_back (λ y. ltb x y) xs i 0 place.0 (λ k lt. le-ltb _ _ (omega (arith, place.1 k lt)))
      (λ k ge lt. lt-ltb _ _ (place.2 k ge lt)) in
      rw (← absent) (sym (ap₂ (λ a b. a ++ x ∷ b) lesser greater))

  pub IsBits-put_in : (i : ℕ) → IsId x → IsBinarySearchResult {X = ℕ} (λ y. nat_cmp y x) xs (Err i)
      → IsBits (insert xs i x)
  IsBits-put_in i id h =
      let absent : false ≡ has xs x = member_by_search xs x are.ascending (Err i) h in
      let lesser : List ℕ = filter (λ y. ltb y x) xs in
      let greater : List ℕ = filter (λ y. ltb x y) xs in
      let all : All IsId (lesser ++ x ∷ greater) =
      All-append IsId lesser (x ∷ greater) (All-filter _ IsId xs are.are_ids)
      (All-append IsId (x ∷ []) greater (all_one IsId x id) (All-filter _ IsId xs are.are_ids)) in
      record {
        ascending = (inserted xs x are.ascending i h).ascending;
        are_ids = subst (All IsId) (sym (put_in i h ∙ rw (← absent) refl)) all;
      }
