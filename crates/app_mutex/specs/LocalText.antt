-- The text of a local state, and the local state of a text.
use Rattle.std.specs.Prelude.{ℕ, Bool, true, false, List, [], ◌∷◌, ◌++◌, Option, codes}
use Rattle.std.specs.List.{find}
use Rattle.std.specs.Str.{bytes_eq}
use Rattle.app_mutex.specs.declared.local.MutexLocal.{MutexLocal}

abbrev pub in_text : Bool → List ℕ
in_text true = codes "in"
in_text false = codes "out"

abbrev pub bit_text : Bool → List ℕ
bit_text true = codes "1"
bit_text false = codes "0"

-- the flag and the bit, joined by a slash
abbrev pub local_text : MutexLocal → List ℕ
local_text v = in_text v.inside ++ codes "/" ++ bit_text v.bit

-- all local states
abbrev pub local_states : List MutexLocal
local_states =
    record { inside = false; bit = false }
    ∷ record { inside = false; bit = true }
    ∷ record { inside = true; bit = false }
    ∷ record { inside = true; bit = true }
    ∷ []

-- the one of them that has the text, if one has
abbrev pub mutex_from_text : List ℕ → Option MutexLocal
mutex_from_text text = find (λ v. bytes_eq (local_text v) text) local_states
