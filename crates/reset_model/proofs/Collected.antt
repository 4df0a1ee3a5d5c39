-- A list that a loop makes of the elements of another, one more at each turn.
use Rattle.std.proofs.Common.{◌≡◌, ◌∙◌, ◌+◌, ◌<◌, ◌++◌, ◌∷◌, ℕ, Bool, true, false, List, [], ap, refl, sym, cond}
use Rattle.std.proofs.Common.{append-nil, filter, get_or, length, map, take}
use Rattle.std.proofs.lemmas.List.{map-append, take_more}
use Rattle.std.proofs.lemmas.List.Elements.{filter-append}

module _ {X : Type 0} (xs : List X) (i : ℕ) (x : X) (short : i < length xs) (at : x ≡ get_or xs i x) where
  one_more : take (i + 1) xs ≡ take i xs ++ x ∷ []
  one_more = take_more xs i x short ∙ ap (λ y. take i xs ++ y ∷ []) (sym at)

  -- what is made of the next one comes last
  pub mapped_more : {Y : Type 0} (f : X → Y) (ys zs : List Y) → ys ≡ map f (take i xs) → zs ≡ ys ++ f x ∷ []
      → zs ≡ map f (take (i + 1) xs)
  mapped_more f ys zs so more =
      more ∙ ap (λ l. l ++ f x ∷ []) so ∙ sym (map-append f (take i xs) (x ∷ [])) ∙ ap (map f) (sym one_more)

  module _ (p : X → Bool) where
    one_filtered : (b : Bool) → p x ≡ b → filter p (take (i + 1) xs) ≡ filter p (take i xs) ++ cond b (x ∷ []) []
    one_filtered b is =
        ap (filter p) one_more ∙ filter-append p (take i xs) (x ∷ [])
        ∙ ap (λ b. filter p (take i xs) ++ cond b (x ∷ []) []) is

    -- it comes last itself, where it is one of those that are taken
    pub filtered_more : (ys zs : List X) → ys ≡ filter p (take i xs) → p x ≡ true → zs ≡ ys ++ x ∷ []
        → zs ≡ filter p (take (i + 1) xs)
    filtered_more ys zs so is more = more ∙ ap (λ l. l ++ x ∷ []) so ∙ sym (one_filtered true is)

    pub filtered_over : (ys : List X) → ys ≡ filter p (take i xs) → p x ≡ false → ys ≡ filter p (take (i + 1) xs)
    filtered_over ys so is = so ∙ sym (append-nil (filter p (take i xs))) ∙ sym (one_filtered false is)

    -- what is made of it comes last, where it is one of them
    pub taken_more : {Y : Type 0} (f : X → Y) (ys zs : List Y) → ys ≡ map f (filter p (take i xs)) → p x ≡ true
        → zs ≡ ys ++ f x ∷ [] → zs ≡ map f (filter p (take (i + 1) xs))
    taken_more f ys zs so is more =
        more ∙ ap (λ l. l ++ f x ∷ []) so ∙ sym (map-append f (filter p (take i xs)) (x ∷ []))
        ∙ ap (map f) (sym (one_filtered true is))

    pub passed_over : {Y : Type 0} (f : X → Y) (ys : List Y) → ys ≡ map f (filter p (take i xs)) → p x ≡ false
        → ys ≡ map f (filter p (take (i + 1) xs))
    passed_over f ys so is = so ∙ ap (map f) (filtered_over (filter p (take i xs)) refl is)
