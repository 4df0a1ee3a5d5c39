-- What a writer holds after a write that failed.
use Rattle.std.specs.Prelude.{◌≡◌, ℕ, List, ◌++◌, Option}
use Rattle.std.specs.Io.KnownBytes.{Appends}

-- known bytes grow by some prefix of bs
pub record AppendsPrefix (old new : Option (List ℕ)) (bs : List ℕ) : Type 0 where
  pub prefix : List ℕ
  pub rest : List ℕ
  pub cut : bs ≡ prefix ++ rest
  pub appended : Appends old new prefix
