-- What reading one item of an ascending list after another gives.
use Rattle.std.specs.Prelude.{◌≡◌, ℕ, ◌-◌, ◌<◌, List, [], ◌∷◌, ◌++◌, length, slice_index}

-- the piece spells an item, which goes to the end of the list
pub record ReadsOn {X : Type 0} (Are : List X → Type 0) (text : X → List ℕ) (old : List X) (piece : List ℕ)
    (new : List X) : Type 0 where
  pub item : X
  pub spelled : piece ≡ text item
  pub pushed : new ≡ old ++ item ∷ []
  pub are : Are new

-- the last of the numbers, if there is one, is below n
abbrev pub EndsBelow : List ℕ → ℕ → Type 0
EndsBelow ns n = 0 < length ns → slice_index ns (length ns - 1) < n

-- the piece spells no item with which the list goes on
abbrev pub NoNext : {X : Type 0} → (List X → Type 0) → (X → List ℕ) → List X → List ℕ → Type 0
NoNext {X} Are text old piece = (x : X) → piece ≡ text x → Are (old ++ x ∷ []) → ⊥
