-- What texts spell, where they are the texts of numbers, of parts and of lists.
use Rattle.std.proofs.Common.{◌≡◌, ℕ, zero, suc, ◌+◌, ◌<◌, ◌^◌, ◌%◌, eqb, ltb, Bool, true, false, List, [], ◌∷◌, ◌++◌}
use Rattle.std.proofs.Common.{All, map, length, get_or, refl, sym, subst, ap, ap₂, ◌∙◌, arith, eq-eqb, ne_eqb}
use Rattle.std.specs.Bool.{Decides}
use Rattle.std.specs.Fmt.{decimal}
use Rattle.std.specs.List.{AllByRecursion, join_with_byte, slice_split, list_all}
use Rattle.std.specs.List.Sorted.{IsStrictlyIncreasing}
use Rattle.std.specs.Str.{bytes_eq}
use Rattle.std.proofs.Math.Nat.{mod-eq_of_lt}
use Rattle.std.proofs.lemmas.Bool.Decides.{Decides-and, Decides-by_and, Decides-ltb}
use Rattle.std.proofs.lemmas.Fmt.{decimal_is_IsNumeral}
use Rattle.std.proofs.lemmas.List.Elements.{All-cons, All-nil, recursion_from_All}
use Rattle.std.proofs.lemmas.List.Splits.{slice_split_at, slice_split_none}
use Rattle.std.proofs.lemmas.Slice.Eq.{bytes_eq-Decides}
use Rattle.action_tables.specs.Cuts.{HasNo}
use Rattle.action_tables.specs.Lists.{list_text}
use Rattle.topology.specs.Id.{IsId}
use Rattle.app_interface.specs.FromText.{items_of, number_of}
use Rattle.app_interface.proofs.ListingLaws.{Spells, same_list}
use Rattle.app_interface.specs.Ids.{ascends, is_id}

-- ---- numbers

pub number_of-decimal : (n : ℕ) → n < 2 ^ 32 → number_of (decimal n) ≡ n
number_of-decimal n small =
    ap (λ v. v % 2 ^ 32) ((decimal_is_IsNumeral n (omega (arith, small))).1) ∙ mod-eq_of_lt small

-- ---- parts

-- no byte of the text passes the test for a byte that it hasn't
none_pass : (byte : ℕ) (xs : List ℕ) → HasNo byte xs → All (λ b. eqb b byte ≡ false) xs
none_pass byte [] none = All-nil (λ b. eqb b byte ≡ false)
none_pass byte (x ∷ xs) none = All-cons (λ b. eqb b byte ≡ false) x xs (ne_eqb x byte none.0) (none_pass byte xs none.1)

-- three parts
pub three_parts : (byte : ℕ) (xs ys zs : List ℕ) → HasNo byte xs → HasNo byte ys → HasNo byte zs →
    slice_split (λ b. eqb b byte) (xs ++ byte ∷ (ys ++ byte ∷ zs)) ≡ xs ∷ ys ∷ zs ∷ []
three_parts byte xs ys zs none none' none'' =
    slice_split_at (λ b. eqb b byte) xs byte (ys ++ byte ∷ zs) (none_pass byte xs none) (eq-eqb byte byte refl)
    ∙ ap (λ l. xs ∷ l) (slice_split_at (λ b. eqb b byte) ys byte zs (none_pass byte ys none') (eq-eqb byte byte refl)
    ∙ ap (λ l. ys ∷ l) (slice_split_none (λ b. eqb b byte) zs (none_pass byte zs none'')))

-- ---- lists

-- items whose texts spell them
module _ {X : Type 0} {IsItem : X → Type 0} {text : X → List ℕ} (spells : Spells IsItem text)
    (item : List ℕ → X) (back : (x : X) → IsItem x → item (text x) ≡ x) where
  no_comma : (x : X) → IsItem x → All (λ b. eqb b 44 ≡ false) (text x)
  no_comma x is = none_pass 44 (text x) (spells.high 44 x (omega arith) is)

  pieces : (x : X) (xs : List X) → AllByRecursion IsItem (x ∷ xs) →
      slice_split (λ b. eqb b 44) (join_with_byte 44 (map text (x ∷ xs))) ≡ map text (x ∷ xs)
  pieces x [] all = slice_split_none (λ b. eqb b 44) (text x) (no_comma x all.0)
  pieces x (y ∷ xs) all =
      slice_split_at (λ b. eqb b 44) (text x) 44 (join_with_byte 44 (map text (y ∷ xs))) (no_comma x all.0) refl
      ∙ ap (λ l. text x ∷ l) (pieces y xs all.1)

  items_back : (xs : List X) → AllByRecursion IsItem xs → map item (map text xs) ≡ xs
  items_back [] all = refl
  items_back (x ∷ xs) all = ap₂ (λ y ys. y ∷ ys) (back x all.0) (items_back xs all.1)

  no_dash : (x : X) (xs : List X) → All IsItem (x ∷ xs) → bytes_eq (list_text text (x ∷ xs)) (45 ∷ []) ≡ false
  no_dash x xs all = at (bytes_eq (list_text text (x ∷ xs)) (45 ∷ [])) refl
    where
      at : (b : Bool) → bytes_eq (list_text text (x ∷ xs)) (45 ∷ []) ≡ b → b ≡ false
      at false e = refl
      at true e =
          let dash : list_text text (x ∷ xs) ≡ 45 ∷ [] = (bytes_eq-Decides (list_text text (x ∷ xs)) (45 ∷ [])).0 e in
          let none : x ∷ xs ≡ [] = same_list spells (x ∷ xs) [] all (All-nil IsItem) dash in
          absurd (omega (arith, ap length none))

  -- a list's text spells its items
  pub items_of-list_text : (xs : List X) → All IsItem xs → items_of item (list_text text xs) ≡ xs
  items_of-list_text [] all = refl
  items_of-list_text (x ∷ xs) all =
      let each = recursion_from_All IsItem (x ∷ xs) all in
      rw (no_dash x xs all) (ap (map item) (pieces x xs each) ∙ items_back (x ∷ xs) each)

-- ---- tests

pub is_id_tells : (n : ℕ) → Decides (is_id n) (IsId n)
is_id_tells n =
    let both = Decides-and (ltb 0 n) (ltb n 65536) (Decides-ltb 0 n) (Decides-ltb n 65536) in (
      λ e. let p = both.0 e in record { positive = p.0; small = omega (arith, p.1) },
      λ id. both.1
          (id.positive, omega (arith, id.small)),
    )

pub ids_tell : (ns : List ℕ) → Decides (list_all is_id ns) (All IsId ns)
ids_tell = Decides-by_and is_id IsId (list_all is_id) is_id_tells refl (λ _ _. refl)

pub ascends_tells : (ns : List ℕ) → Decides (ascends ns) (IsStrictlyIncreasing ns)
ascends_tells [] = (λ e k lt. absurd (omega (arith, lt)), λ up. refl)
ascends_tells (n ∷ []) = (λ e k lt. absurd (omega (arith, lt)), λ up. refl)
ascends_tells (m ∷ n ∷ ns) =
    let both = Decides-and (ltb m n) (ascends (n ∷ ns)) (Decides-ltb m n) (ascends_tells (n ∷ ns)) in (
      λ e. let p = both.0 e in rising p.0 p.1,
      λ up. both.1
          (up 0 (omega arith), λ k lt. tail k (up (suc k) (omega (arith, lt)))),
    )
  where
    after : (k : ℕ) → suc (k + 1) ≡ suc k + 1
    after k = omega arith

    tail : (k : ℕ) → get_or (n ∷ ns) k 0 < get_or (m ∷ n ∷ ns) (suc k + 1) 0
        → get_or (n ∷ ns) k 0 < get_or (n ∷ ns) (k + 1) 0
    tail k less = subst (λ i. get_or (n ∷ ns) k 0 < get_or (m ∷ n ∷ ns) i 0) (sym (after k)) less

    rising : m < n → IsStrictlyIncreasing (n ∷ ns) → IsStrictlyIncreasing (m ∷ n ∷ ns)
    rising less up zero lt = less
    rising less up (suc k) lt =
        subst (λ i. get_or (n ∷ ns) k 0 < get_or (m ∷ n ∷ ns) i 0) (after k) (up k (omega (arith, lt)))
