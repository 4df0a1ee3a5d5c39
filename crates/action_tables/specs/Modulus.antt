-- The numbers modulo which sessions are counted.
use Rattle.std.specs.Prelude.{ℕ, ◌≤◌}

-- the greatest of them: a register of 32 bits has as many values
abbrev pub max_modulus : ℕ
max_modulus = 4294967296

-- a number from 2 to 4294967296: modulo 1 all sessions would be one
pub record IsModulus (m : ℕ) : Type 0 where
  pub two : 2 ≤ m
  pub wide : m ≤ max_modulus
