-- What a verification of a history writes.
use Rattle.std.specs.Prelude.{◌≡◌, ◌≢◌, ℕ, List, [], ◌∷◌, ◌++◌, length, codes, All, Option, Some, None, IsSome, Ok, Err}
use Rattle.std.specs.Prelude.{Result}
use Rattle.std.specs.Fmt.{decimal}
use Rattle.std.specs.List.{concat, flat_map}
use Rattle.topology.specs.Graph.{Graph}
use Rattle.topology.specs.declared.text.AppName.{AppName}
use Rattle.reset_model.specs.Configuration.{Configuration}
use Rattle.reset_model.specs.Outcome.{IsBoot}
use Rattle.reset_model.specs.Sound.{IsSound}
use Rattle.applications.specs.Choice.{ForApp}
use Rattle.applications.specs.Meaning.{Meaning}
use Rattle.history.specs.Entries.{IsFirstRefused, replayed}
use Rattle.history.specs.HistoryText.{IsReadAs, IsReadWhole, ended}
use Rattle.history.specs.Reports.{reports_of}
use Rattle.history.specs.Stretches.{IsIn, IsStretch, IsTrueReport, Stretch}
use Rattle.history.specs.declared.entry.Entry.{Entry}
use Rattle.history.specs.declared.entry.Report.{Report}
use Rattle.history.specs.declared.text.BookFault.{BookFault}
use Rattle.history.specs.declared.text.BookFault.TheVariants.{BadLine, BadVersion, TooLong, NoMemory, ReadFailed}
use Rattle.script_replay.specs.Output.{IsJudged, Leaves, numbered}
use Rattle.script_replay.specs.declared.status.RunStop.{RunStop}
use Rattle.script_replay.specs.declared.status.Status.{Status}
use Rattle.script_replay.specs.declared.status.Status.TheVariants.{Good, NotEnabled, BadInput}
use Rattle.reset_service.specs.Counts.{counts_line}

-- ---- lines

-- a position, or a dash where there is none
abbrev pub position_text : Option ℕ → List ℕ
position_text None = codes "-"
position_text (Some position) = decimal position

-- the line of a reset that was completed: its number, and the positions at which it was opened and finished
abbrev pub report_line : Report → List ℕ
report_line report =
    concat (codes "report " ∷ decimal report.number ∷ codes " opened " ∷ position_text report.opened
    ∷ codes " finished " ∷ decimal report.finished ∷ ended [] ∷ [])

-- what a history with so many entries and these reports is answered with
abbrev pub verified_text : ℕ → List Report → List ℕ
verified_text entries reports =
    flat_map report_line reports ++ counts_line (codes "verified ") entries (length reports)

-- the line of the first entry that isn't allowed where it stands
abbrev pub not_enabled_text : ℕ → List ℕ
not_enabled_text position = numbered (codes "not enabled at ") position

-- the line of a text that is no history
abbrev pub bad_history_text : BookFault → List ℕ
bad_history_text (BadLine n) = numbered (codes "bad history BadLine ") n
bad_history_text BadVersion = ended (codes "bad history BadVersion")
bad_history_text TooLong = ended (codes "bad history TooLong")
bad_history_text NoMemory = ended (codes "bad history NoMemory")
bad_history_text ReadFailed = ended (codes "bad history ReadFailed")

-- the line of a history that counts sessions modulo this number, and the topology modulo another
abbrev pub other_modulus_text : ℕ → List ℕ
other_modulus_text modulus = numbered (codes "bad history OtherModulus ") modulus

-- ---- the output of texts

-- what the text of a history that opens so is answered with, and the status: it is read to its end, or to its first bad
-- line, then its modulus has to be the opening's, and then the entries are judged
pub data IsVerified {L : Type 0} (m : Meaning L) (c : Configuration L) (history : List ℕ) (output : List ℕ × Status) :
    Type 0 where
  bad_history : (f : BookFault) → IsReadAs history (Err f) → output ≡ (bad_history_text f, BadInput)
      → IsVerified m c history output
  other_modulus : (modulus : ℕ) (es : List Entry) → IsReadAs history (Ok (modulus, es)) → modulus ≢ c.modulus
      → output ≡ (other_modulus_text modulus, BadInput) → IsVerified m c history output
  not_enabled : (es : List Entry) (position : ℕ) → IsReadAs history (Ok (c.modulus, es))
      → IsFirstRefused m.app m.from_text c es position → output ≡ (not_enabled_text position, NotEnabled)
      → IsVerified m c history output
  allowed : (es : List Entry) → IsReadAs history (Ok (c.modulus, es)) → IsSome (replayed m.app m.from_text c es)
      → output ≡ (verified_text (length es) (reports_of m.app m.from_text c es), Good)
      → IsVerified m c history output

-- the same from the booted configuration of a graph, with sessions modulo this number
abbrev pub IsVerifiedFrom : {L : Type 0} → Meaning L → Graph → ℕ → List ℕ → List ℕ × Status → Type 0
IsVerifiedFrom {L = L} m g modulus history output =
    (c : Configuration L) × IsBoot m.app g modulus c × IsVerified m c history output

-- the same for the application of a name
abbrev pub IsVerifiedOf : AppName → Graph → ℕ → List ℕ → List ℕ × Status → Type 0
IsVerifiedOf app g modulus history output = ForApp (λ L m. IsVerifiedFrom m g modulus history output) app

-- what a verification writes, and its status: the topology is judged before the history
abbrev pub IsVerification : List ℕ → List ℕ → List ℕ × Status → Type 0
IsVerification topology history = IsJudged (λ app g modulus. IsVerifiedOf app g modulus history) topology

-- the run leaves what all is answered with that a reader had
abbrev pub LeavesOfReader : Option (List ℕ) → (List ℕ → List ℕ × Status → Type 0) → Option (List ℕ) → Option (List ℕ)
    → Result Status RunStop → Type 0
LeavesOfReader known O old new result = (text : List ℕ) × IsReadWhole known text × Leaves (O text) old new result

-- ---- what the reports mean

-- what is written tells true reports of a history, from the booted configuration of a graph on, with sessions modulo
-- this number: the history is that of entries each of which is allowed where it stands, and what is written are their
-- reports. The booted registers are sound, and each report of a stretch that begins in sound registers is true
pub record TellsTrueReports {L : Type 0} (m : Meaning L) (g : Graph) (modulus : ℕ) (history written : List ℕ) :
    Type 0 where
  pub opening : Configuration L
  pub entries : List Entry
  pub booted : IsBoot m.app g modulus opening
  pub sound : IsSound opening
  pub read : IsReadAs history (Ok (modulus, entries))
  pub allowed : IsSome (replayed m.app m.from_text opening entries)
  pub reported : written ≡ verified_text (length entries) (reports_of m.app m.from_text opening entries)
  pub true_reports : (s : Stretch L) → IsStretch m.app m.from_text opening entries s → IsSound s.here
      → All (λ r. IsIn s r.finished → IsTrueReport m.app m.from_text opening entries s r)
      (reports_of m.app m.from_text opening entries)

-- the same for the application of a name
abbrev pub TellsTrueReportsOf : AppName → Graph → ℕ → List ℕ → List ℕ → Type 0
TellsTrueReportsOf app g modulus history written =
    ForApp (λ L m. TellsTrueReports m g modulus history written) app
