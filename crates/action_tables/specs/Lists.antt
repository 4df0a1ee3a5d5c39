-- Lists of items as texts.
use Rattle.std.specs.Prelude.{ℕ, List, [], ◌∷◌, map, codes}
use Rattle.std.specs.List.{join_with_byte}

-- the texts of the items joined by commas, or a dash where there is none
abbrev pub list_text : {X : Type 0} → (X → List ℕ) → List X → List ℕ
list_text text [] = codes "-"
list_text text (x ∷ xs) = join_with_byte 44 (text x ∷ map text xs)
