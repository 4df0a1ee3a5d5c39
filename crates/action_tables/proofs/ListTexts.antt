-- A list that is written item by item.
use Rattle.std.proofs.Common.{◌≡◌, ℕ, ◌-◌, ◌≤◌, List, [], ◌∷◌, ◌++◌, length, get_or, take, drop, sym, ap, ◌∙◌, arith}
use Rattle.std.proofs.Common.{append-nil}
use Rattle.std.specs.List.{flat_map}
use Rattle.std.proofs.lemmas.List.{take_rest}
use Rattle.action_tables.specs.Lists.{list_text}

-- texts joined by commas are the first, and a comma before each other
pub list_text-cons : {X : Type 0} (text : X → List ℕ) (x : X) (xs : List X)
    → list_text text (x ∷ xs) ≡ text x ++ flat_map (λ y. 44 ∷ text y) xs
list_text-cons text x [] = sym (append-nil (text x))
list_text-cons text x (y ∷ xs) = ap (λ l. text x ++ 44 ∷ l) (list_text-cons text y xs)

-- a list that isn't empty, by its first and what is left of it
pub list_text-some : {X : Type 0} (text : X → List ℕ) (xs : List X) (d : X) → 1 ≤ length xs →
    list_text text xs ≡ text (get_or xs 0 d) ++ flat_map (λ y. 44 ∷ text y) (take (length xs - 1) (drop 1 xs))
list_text-some text [] d h = absurd (omega arith)
list_text-some text (x ∷ xs) d h =
    list_text-cons text x xs ∙ ap (λ l. text x ++ flat_map (λ y. 44 ∷ text y) l) (sym (take_rest (x ∷ xs) 1))
