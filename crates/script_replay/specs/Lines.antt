-- The lines of a text.
use Rattle.std.specs.Prelude.{◌≡◌, ◌≢◌, ◌≤◌, ℕ, Bool, ◌==◌, List, [], ◌∷◌, ◌++◌, codes, take, All, Option, IfSome}
use Rattle.std.specs.Prelude.{length}
use Rattle.std.specs.List.{flat_map, join_with_byte, slice_split}
use Rattle.std.specs.Io.KnownBytes.{Consumes}
use Rattle.history.specs.HistoryText.{ended}

abbrev pub is_line_feed : ℕ → Bool
is_line_feed byte = byte == 10

-- what stands before, between and after the line feeds of a text
abbrev pub lines_of : List ℕ → List (List ℕ)
lines_of text = slice_split is_line_feed text

-- the line that ends the topology of a joined text
abbrev pub separator : List ℕ
separator = codes "---"

abbrev pub HasNoSeparator : List (List ℕ) → Type 0
HasNoSeparator lines = All (λ line. line ≢ separator) lines

-- a joined text is the lines of a topology, the first separator, and the lines of a script; or it is a topology alone
pub data IsCut (joined topology script : List ℕ) : Type 0 where
  at_separator : (prefix rest : List (List ℕ)) → lines_of joined ≡ prefix ++ separator ∷ rest → HasNoSeparator prefix
      → topology ≡ flat_map ended prefix → script ≡ join_with_byte 10 rest → IsCut joined topology script
  topology_alone : HasNoSeparator (lines_of joined) → topology ≡ joined → script ≡ [] → IsCut joined topology script

-- the text is what a reader had, up to the limit, where it tells its bytes
unfoldable pub IsReadFrom : Option (List ℕ) → List ℕ → Type 0
IsReadFrom known text = IfSome known (λ bytes. text ≡ take 1048577 bytes)

-- a reader gave some bytes, at most one more than a good text has, and no more
pub record GaveText (old new : Option (List ℕ)) : Type 0 where
  pub bytes : List ℕ
  pub given : Consumes old new bytes
  pub few : length bytes ≤ 1048577
