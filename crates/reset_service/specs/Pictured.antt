-- What drawing a history writes.
use Rattle.std.specs.Prelude.{◌≡◌, ◌≢◌, ◌<◌, ◌≤◌, ℕ, nat_lt, if◌then◌else◌, List, length, codes, IsSome, Ok}
use Rattle.std.specs.Prelude.{Err}
use Rattle.reset_model.specs.Configuration.{Configuration}
use Rattle.applications.specs.Meaning.{Meaning}
use Rattle.history.specs.Entries.{IsFirstRefused, replayed}
use Rattle.history.specs.HistoryText.{IsReadAs, ended}
use Rattle.history.specs.Reports.{reports_of}
use Rattle.history.specs.declared.entry.Entry.{Entry}
use Rattle.history.specs.declared.text.BookFault.{BookFault}
use Rattle.space_time_diagram.specs.Diagram.{diagram_text}
use Rattle.reset_service.specs.Verified.{bad_history_text, not_enabled_text, other_modulus_text}
use Rattle.script_replay.specs.declared.status.Status.{Status}
use Rattle.script_replay.specs.declared.status.Status.TheVariants.{Good, NotEnabled, BadInput}

-- the line of a topology that has more nodes than a picture has lanes
abbrev pub too_many_lanes_text : List ℕ
too_many_lanes_text = ended (codes "bad topology TooManyForPicture")

-- the line of a history that has more entries than a picture has marks
abbrev pub too_many_marks_text : List ℕ
too_many_marks_text = ended (codes "bad history TooLongForPicture")

-- the picture of these nodes and of entries that are a run from c, before which so many came, and the status, where
-- they aren't too many
abbrev pub drawing_of : {L : Type 0} → Meaning L → List ℕ → ℕ → Configuration L → List Entry → List ℕ × Status
drawing_of m nodes before c es =
    if nat_lt 2000 (length es) then (too_many_marks_text, BadInput)
    else (diagram_text m.app m.from_text nodes before c es (reports_of m.app m.from_text c es), Good)

-- that of all nodes, and of the entries of a whole history
abbrev pub drawing : {L : Type 0} → Meaning L → Configuration L → List Entry → List ℕ × Status
drawing m c es = drawing_of m c.graph.ids 0 c es

-- what entries are drawn as that a text has: whether each is allowed where it stands is judged before their number
pub data IsDrawing {L : Type 0} (m : Meaning L) (c : Configuration L) (es : List Entry) (output : List ℕ × Status) :
    Type 0 where
  not_enabled : (position : ℕ) → IsFirstRefused m.app m.from_text c es position
      → output ≡ (not_enabled_text position, NotEnabled) → IsDrawing m c es output
  allowed : IsSome (replayed m.app m.from_text c es) → output ≡ drawing m c es → IsDrawing m c es output

-- what the text of a history that opens so is drawn as, and the status: the number of nodes is judged first, then the
-- text, then its modulus, which has to be the opening's, and then its entries
pub data IsPicture {L : Type 0} (m : Meaning L) (c : Configuration L) (history : List ℕ) (output : List ℕ × Status) :
    Type 0 where
  too_many_lanes : 64 < length c.graph.ids → output ≡ (too_many_lanes_text, BadInput) → IsPicture m c history output
  bad_history : (f : BookFault) → length c.graph.ids ≤ 64 → IsReadAs history (Err f)
      → output ≡ (bad_history_text f, BadInput) → IsPicture m c history output
  other_modulus : (modulus : ℕ) (es : List Entry) → length c.graph.ids ≤ 64 → IsReadAs history (Ok (modulus, es))
      → modulus ≢ c.modulus → output ≡ (other_modulus_text modulus, BadInput) → IsPicture m c history output
  read : (es : List Entry) → length c.graph.ids ≤ 64 → IsReadAs history (Ok (c.modulus, es)) → IsDrawing m c es output
      → IsPicture m c history output
