-- The neighbours of what is down.
use Rattle.std.proofs.Common.{◌≡◌, ℕ, Bool, true, false, cond, List, [], ◌∷◌, filter, refl, ap, ◌∙◌}
use Rattle.topology.specs.Graph.{Graph, IsGraph, IsNode, are_linked, neighbours_of}

none_pass : (p : ℕ → Bool) (xs : List ℕ) → ((x : ℕ) → p x ≡ false) → filter p xs ≡ []
none_pass p [] none = refl
none_pass p (x ∷ xs) none = ap (λ b. cond b (x ∷ filter p xs) (filter p xs)) (none x) ∙ none_pass p xs none

pub no_neighbours : (g : Graph) → IsGraph g → (i : ℕ) → (IsNode g i → ⊥) → neighbours_of g i ≡ []
no_neighbours g graph i down = none_pass (are_linked g i) g.ids (λ j. unlinked j (are_linked g i j) refl)
  where
    unlinked : (j : ℕ) (b : Bool) → are_linked g i j ≡ b → b ≡ false
    unlinked j false is = refl
    unlinked j true is = absurd (down (graph.ends i j is))
