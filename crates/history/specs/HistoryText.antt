-- The texts of histories.
use Rattle.std.specs.Prelude.{◌≡◌, ◌≢◌, ℕ, ◌+◌, ◌<◌, ◌≤◌, ◌^◌, IsTrue, All, List, [], ◌∷◌, ◌++◌, length, codes, Result}
use Rattle.std.specs.Prelude.{Ok, Err, Option, IfSome}
use Rattle.std.specs.Char.{is_ascii_graphic}
use Rattle.std.specs.Fmt.{decimal}
use Rattle.std.specs.List.{flat_map, list_all}
use Rattle.action_tables.specs.Modulus.{IsModulus}
use Rattle.reset_model.specs.EventText as event
use Rattle.fault_inject.specs.FaultText as fault
use Rattle.fault_inject.specs.declared.fault.Fault.{Fault}
use Rattle.fault_inject.specs.declared.fault.Fault.TheVariants.{SetLocal, NodeDown, NodeUp}
use Rattle.history.specs.declared.entry.Entry.{Entry}
use Rattle.history.specs.declared.entry.Entry.TheVariants.{Step, Disturbed}
use Rattle.history.specs.declared.text.BookFault.{BookFault}
use Rattle.history.specs.declared.text.BookFault.TheVariants.{BadLine, BadVersion, TooLong}

-- a line with its line feed
abbrev pub ended : List ℕ → List ℕ
ended line = line ++ 10 ∷ []

-- the line of an entry: the command that makes it happen
abbrev pub entry_line : Entry → List ℕ
entry_line (Step e) = event.event_line e
entry_line (Disturbed f) = fault.fault_line f

-- the text of a fault that puts a local state has only the bytes 33 to 126
abbrev pub IsPrintable : Fault → Type 0
IsPrintable (SetLocal at text) = IsTrue (list_all is_ascii_graphic text)
IsPrintable _ = Unit {0}

-- the numbers of an entry are those of 32 bits, that of a case is one of 8 bits, and a text is one printable word
abbrev pub Fits : Entry → Type 0
Fits (Step e) = event.Fits e
Fits (Disturbed f) = fault.Fits f × IsPrintable f

-- and its line has at most 256 bytes
pub record HasLine (entry : Entry) : Type 0 where
  pub fits : Fits entry
  pub short : length (entry_line entry) ≤ 256

-- a version has the entry: the faults of nodes come with version 3
abbrev pub IsInVersion : ℕ → Entry → Type 0
IsInVersion version (Disturbed (NodeDown at)) = 3 ≤ version
IsInVersion version (Disturbed (NodeUp at)) = 3 ≤ version
IsInVersion version _ = Unit {0}

-- a history of this version may have the line of the entry
pub record HasLineIn (version : ℕ) (entry : Entry) : Type 0 where
  pub line : HasLine entry
  pub known : IsInVersion version entry

-- the first line of a history that is written, which has version 3, with sessions modulo m
abbrev pub first_line : ℕ → List ℕ
first_line m = codes "reset-history 3 " ++ decimal m

-- what the first line of a history of this version with sessions modulo m may be. That of version 1 names no modulus:
-- its sessions are those of 32 bits
pub data IsFirstLine (version m : ℕ) (line : List ℕ) : Type 0 where
  version_1 : version ≡ 1 → m ≡ 4294967296 → line ≡ codes "reset-history 1" → IsFirstLine version m line
  version_2 : version ≡ 2 → IsModulus m → line ≡ codes "reset-history 2 " ++ decimal m → IsFirstLine version m line
  version_3 : version ≡ 3 → IsModulus m → line ≡ first_line m → IsFirstLine version m line

-- the first line that names a version alone
abbrev pub version_line : ℕ → List ℕ
version_line version = codes "reset-history " ++ decimal version

-- a version that isn't read
pub record IsOtherVersion (version : ℕ) : Type 0 where
  pub small : version < 2 ^ 32
  pub not_1 : version ≢ 1
  pub not_2 : version ≢ 2
  pub not_3 : version ≢ 3

-- the lines of entries, each with its line feed
abbrev pub entries_text : List Entry → List ℕ
entries_text es = flat_map (λ entry. ended (entry_line entry)) es

-- a first line and the lines of entries
abbrev pub lines_text : List ℕ → List Entry → List ℕ
lines_text first es = ended first ++ entries_text es

-- the text of a history that is written
abbrev pub history_text : ℕ → List Entry → List ℕ
history_text m es = lines_text (first_line m) es

-- a text begins with this line and its line feed
abbrev pub BeginsWith : List ℕ → List ℕ → Type 0
BeginsWith text line = (rest : List ℕ) × (text ≡ ended line ++ rest)

-- a text begins with the first line of a history of this version with sessions modulo m and the lines of these entries,
-- which such a history may have, and this is the rest of it
pub record Begins (text : List ℕ) (version m : ℕ) (es : List Entry) (rest : List ℕ) : Type 0 where
  pub first : List ℕ
  pub names : IsFirstLine version m first
  pub lines : All (HasLineIn version) es
  pub few : length es ≤ 1000000
  pub spelled : text ≡ lines_text first es ++ rest

-- the text is all that a reader had, where it tells its bytes
abbrev pub IsReadWhole : Option (List ℕ) → List ℕ → Type 0
IsReadWhole known text = IfSome known (λ bytes. text ≡ bytes)

-- what a text is read as: the modulus and the entries of the history that it is, or the first of its lines that a
-- history of its version can't have there
pub data IsReadAs (text : List ℕ) : Result (ℕ × List Entry) BookFault → Type 0 where
  history : (version m : ℕ) (es : List Entry) → Begins text version m es [] → IsReadAs text (Ok (m, es))
  no_version : ((version m : ℕ) (line : List ℕ) → IsFirstLine version m line → BeginsWith text line → ⊥)
      → ((version : ℕ) → IsOtherVersion version → BeginsWith text (version_line version) → ⊥)
      → IsReadAs text (Err (BadLine 1))
  other_version : (version : ℕ) → IsOtherVersion version → BeginsWith text (version_line version)
      → IsReadAs text (Err BadVersion)
  bad_line : (version m : ℕ) (es : List Entry) (rest : List ℕ) → Begins text version m es rest → rest ≢ []
      → ((entry : Entry) → HasLineIn version entry → BeginsWith rest (entry_line entry) → ⊥)
      → IsReadAs text (Err (BadLine (length es + 2)))
  too_long : (version m : ℕ) (es : List Entry) (rest : List ℕ) (entry : Entry) → Begins text version m es rest
      → length es ≡ 1000000 → HasLineIn version entry → BeginsWith rest (entry_line entry)
      → IsReadAs text (Err TooLong)
