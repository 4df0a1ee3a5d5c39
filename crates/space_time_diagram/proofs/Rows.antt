-- Rows come one below the other.
use Rattle.std.proofs.Common.{ℕ, ◌*◌, ◌/◌, ◌<◌, ◌≤◌, arith}
use Rattle.std.proofs.Math.Nat.{div-le_of_le-mul, mul-div-le}
use Rattle.std.proofs.lemmas.Nat.{le-div}
use Rattle.space_time_diagram.specs.Page.{row_y}

-- whole forties
pub forties : (p q : ℕ) → p ≤ q → p / 40 ≤ q / 40
forties p q above =
    let low : 40 * (p / 40) ≤ p = mul-div-le p 40 in
    le-div (p / 40) q 40 (omega arith) (omega (arith, low, above))

pub rows_in_order : (p q : ℕ) → p ≤ q → row_y p ≤ row_y q
rows_in_order p q above = omega (arith, forties p q above, above)

pub rows_apart : (p q : ℕ) → p < q → row_y p < row_y q
rows_apart p q above = omega (arith, forties p q (omega (arith, above)), above)

pub few_forties : (p : ℕ) → p ≤ 2000 → p / 40 ≤ 50
few_forties p few = div-le_of_le-mul 40 few
