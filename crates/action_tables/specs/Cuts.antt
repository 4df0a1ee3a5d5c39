-- Texts that are cut at a byte, or behind the digits that they begin with.
use Rattle.std.specs.Prelude.{◌≡◌, ◌≢◌, ℕ, ◌<◌, List, [], ◌∷◌, ◌++◌}
use Rattle.std.specs.Char.{digit_value}
use Rattle.std.specs.Str.Parse.{AllDigits, digits_value}

-- no byte of the text is this one
abbrev pub HasNo : ℕ → List ℕ → Type 0
HasNo byte [] = Unit {0}
HasNo byte (x ∷ xs) = (x ≢ byte) × HasNo byte xs

-- the text doesn't begin with a digit
abbrev pub BeginsWithNoDigit : List ℕ → Type 0
BeginsWithNoDigit [] = Unit {0}
BeginsWithNoDigit (b ∷ bs) = digit_value b < 10 → ⊥

-- the text begins with digits of this value, and this, which begins with none, follows them
pub record AreLeadingDigits (text : List ℕ) (value : ℕ) (rest : List ℕ) : Type 0 where
  pub digits : List ℕ
  pub split : text ≡ digits ++ rest
  pub all : AllDigits 10 digits
  pub worth : value ≡ digits_value 10 digits
  pub ends : BeginsWithNoDigit rest
