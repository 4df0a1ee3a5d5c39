-- What is seen of a neighbour is what stands there.
use Rattle.std.proofs.Common.{◌≡◌, ◌≢◌, ◌⊎◌, ℕ, ◌==◌, eqb, true, false, List, [], ◌∷◌, Some, inl, inr, sym, ap, ◌∙◌}
use Rattle.std.proofs.lemmas.Bool.Decides.{eqb_tells}
use Rattle.app_interface.specs.Application.{seen}
use Rattle.app_interface.specs.Views.{seen_at}

pub seen_is : {L : Type 0} (j : ℕ) (v : ℕ → L) (ids : List ℕ) (w : L) → seen_at j (seen (λ k. k == j) v ids) ≡ Some w
    → w ≡ v j
seen_is j v [] w e = absurd (cc)
seen_is {L = L} j v (k ∷ ids) w e = at (eqb_tells k j) (seen_is j v ids w)
  where
    at : ((eqb k j ≡ true) × (k ≡ j)) ⊎ ((eqb k j ≡ false) × (k ≢ j))
        → (seen_at j (seen (λ k. k == j) v ids) ≡ Some w → w ≡ v j) → w ≡ v j
    at (inl here) rest = let found : Some (v k) ≡ Some w =
        rw (here.0, here.0) at e in (let same : v k ≡ w = cc in sym same ∙ ap v here.1)
    at (inr other) rest = rest (rw other.0 at e)
