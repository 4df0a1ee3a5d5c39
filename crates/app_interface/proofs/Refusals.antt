-- Refusals of results of two types.
use Rattle.std.proofs.Common.{◌≡◌, Result, Err, ap}

-- two refusals are the same whatever a success would have been
pub other_ok : {S T E : Type 0} (e f : E) → ◌≡◌ {A = Result T E} (Err e) (Err f) → ◌≡◌ {A = Result S E} (Err e) (Err f)
other_ok e f h = let same : e ≡ f = cc in ap (λ x. Err x) same
