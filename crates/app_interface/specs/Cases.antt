-- The cases of an application: how many there are, what they are called and what they read.
use Rattle.std.specs.Prelude.{◌≡◌, ℕ, ◌≤◌, ◌↔◌, ◌⊎◌, List, [], ◌∷◌, Option, Some, IsSome}
use Rattle.app_interface.specs.declared.reads.Reads.{Reads}

-- cases are numbered from 1
pub record IsCase (count n : ℕ) : Type 0 where
  pub first : 1 ≤ n
  pub last : n ≤ count

-- a to z, or A to Z
pub record IsBetween (low high byte : ℕ) : Type 0 where
  pub from : low ≤ byte
  pub to : byte ≤ high

abbrev pub IsLetter : ℕ → Type 0
IsLetter byte = IsBetween 97 122 byte ⊎ IsBetween 65 90 byte

abbrev pub BeginsWithLetter : List ℕ → Type 0
BeginsWithLetter [] = ⊥
BeginsWithLetter (byte ∷ rest) = IsLetter byte

-- the laws of the cases: their names tell them apart from one another, and from a number
pub record AreCases (count : ℕ) (names : ℕ → Option (List ℕ)) (reads : ℕ → Option Reads) : Type 0 where
  pub few : count ≤ 16
  pub named : (n : ℕ) → (IsSome (names n) ↔ IsCase count n)
  pub read : (n : ℕ) → (IsSome (reads n) ↔ IsCase count n)
  pub distinct : (m n : ℕ) (name : List ℕ) → names m ≡ Some name → names n ≡ Some name → m ≡ n
  pub lettered : (n : ℕ) (name : List ℕ) → names n ≡ Some name → BeginsWithLetter name
