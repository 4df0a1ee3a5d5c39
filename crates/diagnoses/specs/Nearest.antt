-- Which of some names may be meant by a word.
use Rattle.std.specs.Prelude.{ℕ, ◌<◌, ◌≤◌, nat_eq, List, length, Contains, Option, Some, None}
use Rattle.strsim.specs.Edits.{levenshtein_row}

-- how many bytes have to be put in, left out or replaced to make one word of another
abbrev pub edits : List ℕ → List ℕ → ℕ
edits word name = levenshtein_row nat_eq word name (length name)

-- a name of the list that is at most two edits away from the word, and none is nearer
pub record IsNearest (names : List (List ℕ)) (word name : List ℕ) : Type 0 where
  pub among : Contains names name
  pub near : edits word name ≤ 2
  pub least : (other : List ℕ) → Contains names other → edits word name ≤ edits word other

-- the name of the list that may be meant by the word, or none where all are further away
abbrev pub IsMeant : List (List ℕ) → List ℕ → Option (List ℕ) → Type 0
IsMeant names word (Some name) = IsNearest names word name
IsMeant names word None = (other : List ℕ) → Contains names other → 2 < edits word other
