-- A list that is cut into pieces of 1,024, all full, and a last one.
use Rattle.std.proofs.Common.{◌≡◌, ℕ, zero, suc, ◌+◌, ◌*◌, ◌/◌, ◌%◌, ◌<◌, ◌≤◌, List, [], ◌∷◌, ◌++◌, length, take, drop}
use Rattle.std.proofs.Common.{Option, Some}
use Rattle.std.proofs.Common.{slice_get, refl, sym, ap, ◌∙◌, arith, append-nil, append_assoc}
use Rattle.std.proofs.lemmas.List.{length-append, length-drop, length-take, take_all}
use Rattle.std.proofs.Math.Seq.{drop-append-add, drop-append_seam, take-add, take-append_seam, take-take}
use Rattle.std.proofs.lemmas.Grind.{flat_map-append}
use Rattle.std.proofs.lemmas.List.Elements.{All-head, All-push, All-tail}
use Rattle.std.proofs.Common.{None, is_some, ltb, get_or, option_map}
use Rattle.std.proofs.lemmas.Bool.Decides.{nat_tests}
use Rattle.std.proofs.lemmas.Option.{slice_get_past, slice_get_read}
use Rattle.std.specs.Prelude.{IfSome}
use Rattle.std.specs.List.{All, flat_map}

module _ {X A : Type 0} (items : X → List A) where
  abbrev AreFull : List X → Type 0
  AreFull ps = All (λ p. length (items p) ≡ 1024) ps

  pub full_length : (ps : List X) → AreFull ps → length (flat_map items ps) ≡ length ps * 1024
  full_length [] full = refl
  full_length (p ∷ ps) full =
      let here = All-head (λ p. length (items p) ≡ 1024) p ps full in
      let others = full_length ps (All-tail (λ p. length (items p) ≡ 1024) p ps full) in
      omega (arith, length-append (items p) (flat_map items ps), here, others)

  -- what a full piece has
  pub full_piece : (ps : List X) (last : List A) (k : ℕ) (p : X) → AreFull ps → slice_get ps k ≡ Some p
      → items p ≡ take 1024 (drop (k * 1024) (flat_map items ps ++ last))
  full_piece [] last k p full is = absurd (cc)
  full_piece (q ∷ ps) last zero p full is =
      let same : q ≡ p = cc in
      let here = All-head (λ p. length (items p) ≡ 1024) q ps full in
      ap items (sym same) ∙ sym (take-append_seam (items q) (flat_map items ps ++ last))
      ∙ ap (λ n. take n (items q ++ (flat_map items ps ++ last))) here
      ∙ ap (take 1024) (sym (append_assoc (items q) (flat_map items ps) last))
  full_piece (q ∷ ps) last (suc k) p full is =
      let later : slice_get ps k ≡ Some p = is in
      let here = All-head (λ p. length (items p) ≡ 1024) q ps full in
      let others = full_piece ps last k p (All-tail (λ p. length (items p) ≡ 1024) q ps full) later in
      let place : length (items q) + k * 1024 ≡ suc k * 1024 = omega (arith, here) in
      others
      ∙ ap (take 1024) (sym (drop-append-add (items q) (flat_map items ps ++ last) (k * 1024))
      ∙ ap (λ n. drop n (items q ++ (flat_map items ps ++ last))) place
      ∙ ap (drop (suc k * 1024)) (sym (append_assoc (items q) (flat_map items ps) last)))

  -- what the last piece has
  pub last_piece : (ps : List X) (last : List A) (k : ℕ) → AreFull ps → length last ≤ 1024 → length ps ≤ k
      → k * 1024 < length (flat_map items ps ++ last) → last ≡ take 1024 (drop (k * 1024) (flat_map items ps ++ last))
  last_piece ps last k full short past inside =
      let sum = full_length ps full in
      let place : length (flat_map items ps) ≡ k * 1024 = omega (
        arith,
        sum,
        length-append (flat_map items ps) last,
        short,
        past,
        inside,
      ) in
      sym (take_all 1024 last short)
      ∙ ap (take 1024) (sym (drop-append_seam (flat_map items ps) last)
      ∙ ap (λ n. drop n (flat_map items ps ++ last)) place)

  -- another piece is full
  pub full_more : (ps : List X) (p : X) → AreFull ps → length (items p) ≡ 1024 → AreFull (ps ++ p ∷ [])
  full_more ps p full here = All-push (λ p. length (items p) ≡ 1024) ps p full here

  -- a full last piece is one of those before the next
  pub closed_same : (ps : List X) (p : X) (last next : List A) → last ≡ items p → next ≡ []
      → flat_map items (ps ++ p ∷ []) ++ next ≡ flat_map items ps ++ last
  closed_same ps p last next is none =
      ap (λ l. flat_map items (ps ++ p ∷ []) ++ l) none ∙ append-nil (flat_map items (ps ++ p ∷ []))
      ∙ flat_map-append items ps (p ∷ []) ∙ ap (λ l. flat_map items ps ++ l) (append-nil (items p) ∙ sym is)

module _ {A : Type 0} where
  get_of_take : (xs : List A) (n i : ℕ) → i < n → slice_get (take n xs) i ≡ slice_get xs i
  get_of_take [] n i small = ap (λ l. slice_get l i) (take_all n [] (omega arith))
  get_of_take (x ∷ xs) zero i small = absurd (omega (arith, small))
  get_of_take (x ∷ xs) (suc n) zero small = refl
  get_of_take (x ∷ xs) (suc n) (suc i) small = get_of_take xs n i (omega (arith, small))

  get_of_drop : (xs : List A) (m i : ℕ) → slice_get (drop m xs) i ≡ slice_get xs (m + i)
  get_of_drop xs zero i = let place : i ≡ 0 + i = omega arith in ap (slice_get xs) place
  get_of_drop [] (suc m) i = refl
  get_of_drop (x ∷ xs) (suc m) i =
      let place : suc (m + i) ≡ suc m + i = omega arith in
      get_of_drop xs m i ∙ ap (slice_get (x ∷ xs)) place

  -- the item at an index, by its piece and its place there
  pub piece_get : (xs : List A) (m i index : ℕ) → i < 1024 → m + i ≡ index
      → slice_get (take 1024 (drop m xs)) i ≡ slice_get xs index
  piece_get xs m i index small is =
      get_of_take (drop m xs) 1024 i small ∙ get_of_drop xs m i ∙ ap (slice_get xs) is

  -- a piece reaches to each index that it has
  pub piece_long : (xs : List A) (index : ℕ) → index < length xs
      → index % 1024 ≤ length (take 1024 (drop (index / 1024 * 1024) xs))
  piece_long xs index inside =
      omega (
        arith,
        inside,
        length-take 1024 (drop (index / 1024 * 1024) xs),
        length-drop (index / 1024 * 1024) xs,
      )

  -- what stands in a piece before an index
  pub piece_prefix : (xs piece : List A) (index : ℕ) → piece ≡ take 1024 (drop (index / 1024 * 1024) xs)
      → take (index % 1024) piece ≡ take (index % 1024) (drop (index / 1024 * 1024) xs)
  piece_prefix xs piece index is =
      ap (take (index % 1024)) is ∙ take-take (index % 1024) 1024 (drop (index / 1024 * 1024) xs) (omega arith)

  -- one piece more
  pub pieces_next : (xs : List A) (k : ℕ) → take ((k + 1) * 1024) xs ≡ take (k * 1024) xs ++ take 1024 (drop (k * 1024)
      xs)
  pieces_next xs k =
      let place : (k + 1) * 1024 ≡ k * 1024 + 1024 = omega arith in
      ap (λ n. take n xs) place ∙ take-add (k * 1024) 1024 xs

-- an item that `get` gives, seen through a borrow
pub got_item : {B A : Type 0} (seen : B → A) (got : Option B) (xs : List A) (i : ℕ) → is_some got ≡ ltb i (length xs)
    → IfSome got (λ b. seen b ≡ get_or xs i (seen b)) → option_map seen got ≡ slice_get xs i
got_item seen None xs i none some = sym (slice_get_past xs i (grind (arith, nat_tests)))
got_item seen (Some b) xs i inside is =
    sym (slice_get_read xs (length xs) i (seen b) refl (grind (arith, nat_tests)) is)
