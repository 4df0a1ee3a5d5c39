-- The numbers of identifiers.
use Rattle.std.specs.Prelude.{ℕ, ◌<◌, ◌≤◌}

-- a number from 1 to 65535
pub record IsId (n : ℕ) : Type 0 where
  pub positive : 0 < n
  pub small : n ≤ 65535
