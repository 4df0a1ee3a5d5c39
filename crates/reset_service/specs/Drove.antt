-- What a run of the seeded scheduler leaves: the history of what it did, and what is written of it.
use Rattle.std.specs.Prelude.{◌≡◌, ℕ, List, [], length, codes, IsSome, Ok}
use Rattle.topology.specs.Graph.{Graph}
use Rattle.topology.specs.declared.text.AppName.{AppName}
use Rattle.reset_model.specs.Configuration.{Configuration}
use Rattle.reset_model.specs.Outcome.{IsBoot}
use Rattle.applications.specs.Choice.{ForApp}
use Rattle.applications.specs.Meaning.{Meaning}
use Rattle.history.specs.Book.{BookView}
use Rattle.history.specs.Entries.{replayed}
use Rattle.history.specs.HistoryText.{IsReadAs, history_text}
use Rattle.history.specs.Reports.{reports_of}
use Rattle.history.specs.declared.entry.Entry.{Entry}
use Rattle.scheduler.specs.Driven.{driven}
use Rattle.script_replay.specs.Output.{IsJudged}
use Rattle.script_replay.specs.declared.status.Status.{Status}
use Rattle.script_replay.specs.declared.status.Status.TheVariants.{Good, BadInput}
use Rattle.reset_service.specs.Counts.{counts_line}

-- the line of the numbers of entries and of reports
abbrev pub drove_line : ℕ → ℕ → List ℕ
drove_line = counts_line (codes "drove ")

-- the book that opens with a configuration and may have a million entries
abbrev pub new_book : {L : Type 0} → Configuration L → BookView L
new_book c = record { opening = c; entries = []; config = c; limit = 1000000 }

-- what a scheduler does from a configuration on in so many steps, drawn by the seed, of which in so many of a thousand
-- cases one is a fault: its entries are those of the book that it drives, they are allowed where they stand, the
-- history is their text, with sessions modulo the number of the configuration, and is read as them, and the line counts
-- them and their reports
pub record IsDrove {L : Type 0} (m : Meaning L) (c : Configuration L) (steps seed faults : ℕ) (history : List ℕ)
    (output : List ℕ × Status) : Type 0 where
  pub entries : List Entry
  pub drawn : entries ≡ (driven m.app m.from_text steps seed faults (new_book c)).entries
  pub allowed : IsSome (replayed m.app m.from_text c entries)
  pub text : history ≡ history_text c.modulus entries
  pub read : IsReadAs history (Ok (c.modulus, entries))
  pub told : output ≡ (drove_line (length entries) (length (reports_of m.app m.from_text c entries)), Good)

-- the same from the booted configuration of a graph, with sessions modulo this number
abbrev pub IsDroveFrom : {L : Type 0} → Meaning L → (steps seed faults : ℕ) → Graph → ℕ → List ℕ → List ℕ × Status
    → Type 0
IsDroveFrom {L = L} m steps seed faults g modulus history output =
    (c : Configuration L) × IsBoot m.app g modulus c × IsDrove m c steps seed faults history output

-- the same for the application of a name
abbrev pub IsDroveOf : (steps seed faults : ℕ) → AppName → Graph → ℕ → List ℕ → List ℕ × Status → Type 0
IsDroveOf steps seed faults app g modulus history output =
    ForApp (λ L m. IsDroveFrom m steps seed faults g modulus history output) app

-- a run of the scheduler on the topology of a text leaves this history, this output and this status: a bad topology is
-- answered first, and leaves no history
pub record IsDroveText (steps seed faults : ℕ) (topology history : List ℕ) (output : List ℕ × Status) : Type 0 where
  pub judged : IsJudged (λ app g modulus. IsDroveOf steps seed faults app g modulus history) topology output
  pub undriven : output.1 ≡ BadInput → history ≡ []
