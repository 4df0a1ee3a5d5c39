-- The text of a local state, and the local state of a text.
use Rattle.std.specs.Prelude.{ℕ, ◌&&◌, if◌then◌else◌, Bool, true, false, List, [], ◌∷◌, Option, Some, None, codes}
use Rattle.std.specs.List.{join_with_byte}
use Rattle.std.specs.Str.{bytes_eq}
use Rattle.action_tables.specs.RowText.{set_text}
use Rattle.app_interface.specs.FromText.{items_of, number_of, part_of}
use Rattle.app_token.specs.Bits.{IsBits, are_bits}
use Rattle.app_token.specs.declared.local.TokenLocal.{TokenLocal}

abbrev pub hold_text : Bool → List ℕ
hold_text true = codes "hold"
hold_text false = codes "free"

-- the flag and the two sets of identifiers, joined by slashes
abbrev pub local_text : TokenLocal → List ℕ
local_text v = join_with_byte 47 (hold_text v.hold ∷ set_text v.given ∷ set_text v.taken ∷ [])

-- what holds of each local state
pub record IsTokenLocal (v : TokenLocal) : Type 0 where
  pub given : IsBits v.given
  pub taken : IsBits v.taken

-- the same as a test
abbrev pub is_token_local : TokenLocal → Bool
is_token_local v = are_bits v.given && are_bits v.taken

-- what a text spells by its parts between slashes
abbrev pub spelled_by : List ℕ → TokenLocal
spelled_by text = record {
  hold = bytes_eq (part_of 47 text 0) (codes "hold");
  given = items_of number_of (part_of 47 text 1);
  taken = items_of number_of (part_of 47 text 2);
}

-- the local state with a text: what it spells, where that is a local state and has the text
abbrev pub token_from_text : List ℕ → Option TokenLocal
token_from_text text =
    if is_token_local (spelled_by text) && bytes_eq (local_text (spelled_by text)) text
    then Some (spelled_by text)
    else None
