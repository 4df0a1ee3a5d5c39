-- The width of a grid, by a square root.
use Rattle.std.proofs.Common.{◌≡◌, ℕ, zero, suc, ◌+◌, ◌-◌, ◌*◌, ◌<◌, ◌≤◌, nat_le, Some}
use Rattle.std.proofs.Common.{unwrap_or, sym, ap, arith}
use Rattle.std.specs.List.{find, range_with_len}
use Rattle.std.proofs.lemmas.Bool.{le-leb, lt-leb}
use Rattle.std.proofs.lemmas.Nat.{mul-le}
use Rattle.network_shapes.specs.Shapes.{grid_width}
use Rattle.network_shapes.proofs.Ranges.{find_range}

-- no number is above its square
square_above : (n : ℕ) → n ≤ n * n
square_above zero = omega arith
square_above (suc n) = omega (arith, mul-le 1 (suc n) (suc n) (suc n) (omega arith) (omega arith))

-- one more than the square root, rounded down, of the number before
pub grid_width-root : (count root : ℕ) → 0 < count → root * root ≤ count - 1 → count - 1 < (root + 1) * (root + 1)
    → root + 1 ≡ grid_width count
grid_width-root count root some low high =
    let found : find (λ width. nat_le count (width * width)) (range_with_len 1 count) ≡ Some (root + 1) =
    find_range (λ width. nat_le count (width * width)) 1 count (root + 1) (omega arith)
    (omega (arith, square_above root)) (le-leb count ((root + 1) * (root + 1)) (omega arith))
    (λ v from to. lt-leb count (v * v) (omega (arith, mul-le v v root root (omega arith) (omega arith)))) in
    sym (ap (λ o. unwrap_or o 1) found)
