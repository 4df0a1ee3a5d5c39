-- What a page of a history writes.
use Rattle.std.specs.Prelude.{◌≡◌, ◌≢◌, ℕ, nat_lt, if◌then◌else◌, List, Option, length, codes, IsSome, Ok, Err}
use Rattle.topology.specs.TopologyTable.{app_word}
use Rattle.reset_model.specs.Configuration.{Configuration}
use Rattle.applications.specs.Meaning.{Meaning}
use Rattle.history.specs.Entries.{IsFirstRefused, replayed}
use Rattle.history.specs.HistoryText.{IsReadAs, ended}
use Rattle.history.specs.declared.entry.Entry.{Entry}
use Rattle.history.specs.declared.text.BookFault.{BookFault}
use Rattle.history_page.specs.Page.{data_text}
use Rattle.script_replay.specs.Output.{IsJudged}
use Rattle.script_replay.specs.declared.status.Status.{Status}
use Rattle.script_replay.specs.declared.status.Status.TheVariants.{Good, NotEnabled, BadInput}
use Rattle.reset_service.specs.Opened.{IsOpenedOf}
use Rattle.reset_service.specs.Started.{FollowUp}
use Rattle.reset_service.specs.Verified.{bad_history_text, not_enabled_text, other_modulus_text}

-- the line of a history that has more entries than a page plays
abbrev pub too_long_text : List ℕ
too_long_text = ended (codes "bad history TooLongForPage")

-- what stands around the data of a page
abbrev pub Frame : Type 0
Frame = List ℕ → List ℕ

-- the page with a title and the application's name of entries that are a run from c, and the status, where they aren't
-- too many
abbrev pub page_output : {L : Type 0} → Frame → List ℕ → List ℕ → Meaning L → Configuration L → List Entry
    → List ℕ × Status
page_output around title name m c es =
    if nat_lt 100000 (length es) then (too_long_text, BadInput)
    else (around (data_text m.app m.text m.from_text title name c es), Good)

-- what is written for entries that a text has: whether each is allowed where it stands is judged before their number
pub data IsPageOfEntries {L : Type 0} (around : Frame) (title name : List ℕ) (m : Meaning L) (c : Configuration L)
    (es : List Entry)
    (output : List ℕ × Status) : Type 0 where
  not_enabled : (position : ℕ) → IsFirstRefused m.app m.from_text c es position
      → output ≡ (not_enabled_text position, NotEnabled) → IsPageOfEntries around title name m c es output
  allowed : IsSome (replayed m.app m.from_text c es) → output ≡ page_output around title name m c es
      → IsPageOfEntries around title name m c es output

-- what is written for the text of a history that opens so, and the status: the text is judged first, then its modulus,
-- which has to be the opening's, and then its entries
pub data IsPage {L : Type 0} (around : Frame) (title name : List ℕ) (m : Meaning L) (c : Configuration L)
    (history : List ℕ)
    (output : List ℕ × Status) : Type 0 where
  bad_history : (f : BookFault) → IsReadAs history (Err f) → output ≡ (bad_history_text f, BadInput)
      → IsPage around title name m c history output
  other_modulus : (modulus : ℕ) (es : List Entry) → IsReadAs history (Ok (modulus, es)) → modulus ≢ c.modulus
      → output ≡ (other_modulus_text modulus, BadInput) → IsPage around title name m c history output
  read : (es : List Entry) → IsReadAs history (Ok (c.modulus, es)) → IsPageOfEntries around title name m c es output
      → IsPage around title name m c history output

-- what may follow a topology and a snapshot: the page of a history
abbrev pub Plays : Frame → List ℕ → List ℕ → List ℕ → FollowUp
Plays around title name history L m c output = IsPage around title name m c history output

-- what is written for the texts of a topology, of a snapshot where one is given, and of a history, which are judged in
-- this order
abbrev pub IsPageText : Frame → (title topology : List ℕ) → Option (List ℕ) → List ℕ → List ℕ × Status → Type 0
IsPageText around title topology snapshot history =
    IsJudged (λ app g modulus. IsOpenedOf (Plays around title (app_word app) history) app g modulus snapshot) topology
