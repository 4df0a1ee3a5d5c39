-- What an exploration leaves that shows what it found: a history, and what is written beside it.
use Rattle.std.specs.Prelude.{◌≡◌, ◌<◌, ◌≤◌, ◌+◌, ℕ, List, [], ◌∷◌, ◌++◌, length, codes, Option, Some, None}
use Rattle.std.specs.Fmt.{decimal}
use Rattle.std.specs.List.{concat}
use Rattle.reset_model.specs.declared.event.Event.{Event}
use Rattle.reset_model.specs.Configuration.{Configuration}
use Rattle.applications.specs.Meaning.{Meaning}
use Rattle.history.specs.HistoryText.{ended, history_text}
use Rattle.history.specs.Stretches.{steps}
use Rattle.history.specs.declared.entry.Entry.{Entry}
use Rattle.schedules.specs.Explored.{HasMoreThan, IsExplored}
use Rattle.schedules.specs.Search.{AreFew, IsSearch}
use Rattle.schedules.specs.Witnessed.{IsShownBy}
use Rattle.schedules.specs.declared.schedules.Runs.{Runs}
use Rattle.schedules.specs.declared.schedules.Schedules.{Schedules}
use Rattle.schedules.specs.declared.finding.Search.{Search}
use Rattle.schedules.specs.declared.finding.Search.TheVariants.{Reached, Unreached}
use Rattle.schedules.specs.declared.finding.Target.{Target}
use Rattle.schedules.specs.declared.witness.Witness.{Witness}
use Rattle.schedules.specs.declared.witness.Witness.TheVariants.{Longest, Endless}
use Rattle.script_replay.specs.Left.{bad_line_of, left_by}
use Rattle.script_replay.specs.Lines.{lines_of}
use Rattle.script_replay.specs.Output.{bad_line_text, too_long_text}
use Rattle.script_replay.specs.Recorded.{entries_of_lines}
use Rattle.script_replay.specs.declared.status.Status.{Status}
use Rattle.script_replay.specs.declared.status.Status.TheVariants.{BadInput}
use Rattle.reset_service.specs.Opened.{IsOpenedText}
use Rattle.reset_service.specs.Explorations.{counts_text, on_next_line, runs_text, status_of, too_many_text}
use Rattle.reset_service.specs.Searched.{search_status, search_text}
use Rattle.reset_service.specs.Started.{FollowUp}
use Rattle.reset_service.specs.declared.explored.Exploring.{Exploring}
use Rattle.reset_service.specs.declared.shown.ShownHistory.{ShownHistory}

-- ---- the text

-- the events of the order that shows what was found
abbrev pub shown_events : Witness → List Event
shown_events (Longest events) = events.items
shown_events (Endless events before) = events.items

-- the line of an order that follows n entries and comes back, after all of its events, to where it was after the first ones
abbrev pub round_text : (n first all : ℕ) → List ℕ
round_text n first all =
    concat (on_next_line (codes "endless from ") ∷ decimal (n + first) ∷ codes " to " ∷ decimal (n + all) ∷ ended [] ∷ [])

-- how far the orders go, where the order follows n entries of a history: one that goes round is named by the entries
-- after which the configuration is the same
abbrev pub shown_runs_text : ℕ → Runs → Witness → List ℕ
shown_runs_text n runs (Longest events) = runs_text runs
shown_runs_text n runs (Endless events before) =
    round_text n before (length events.items)

abbrev pub shown_text : ℕ → Schedules → Witness → List ℕ
shown_text n found w = counts_text found ++ shown_runs_text n found.runs w

abbrev pub long_history_text : List ℕ
long_history_text = ended (codes "more than 1000000 entries")

-- the numbers of the line are those of entries that a history may have
abbrev pub IsWithin : ℕ → Witness → Type 0
IsWithin n (Longest events) = Unit {0}
IsWithin n (Endless events before) = (before < length events.items) × (n + length events.items ≤ 1000000)

-- ---- what is written

-- the history of the entries of a script and of the events after them, or None where they are too many
abbrev pub IsHistoryOf : ℕ → List Entry → List Event → Option ShownHistory → Type 0
IsHistoryOf modulus entries events None = 1000000 < length entries + length events
IsHistoryOf modulus entries events (Some h) = (length entries + length events ≤ 1000000)
    × (h.text.items ≡ history_text modulus (entries ++ steps events)) × (h.before ≡ length entries)

-- with this answer the history is left that shows an order: that of the entries and of its events after them, unless they
-- are too many
pub data IsKeptWith (answer : List ℕ × Status) (modulus : ℕ) (entries : List Entry) (events : List Event)
    (history : List ℕ) (output : List ℕ × Status) : Type 0 where
  long : 1000000 < length entries + length events → history ≡ [] → output ≡ (long_history_text, BadInput)
      → IsKeptWith answer modulus entries events history output
  kept : length entries + length events ≤ 1000000 → history ≡ history_text modulus (entries ++ steps events)
      → output ≡ answer → IsKeptWith answer modulus entries events history output

-- what a search leaves that found this: the history of a shortest order, or none
abbrev pub IsLeftBy : Search → ℕ → List Entry → List ℕ → List ℕ × Status → Type 0
IsLeftBy (Reached events) modulus entries history output =
    IsKeptWith (search_text (Reached events), search_status (Reached events)) modulus entries events.items history output
IsLeftBy (Unreached n) modulus entries history output =
    (history ≡ []) × (output ≡ (search_text (Unreached n), search_status (Unreached n)))

-- what an exploration from this configuration leaves, to which the entries led from one with this modulus
pub data IsFoundBy {L : Type 0} (m : Meaning L) (run : Exploring) (modulus : ℕ) (entries : List Entry) (c : Configuration L)
    (history : List ℕ) (output : List ℕ × Status) : Type 0 where
  too_many : HasMoreThan m.app run.acts c run.most → history ≡ [] → output ≡ (too_many_text run.most, BadInput)
      → IsFoundBy m run modulus entries c history output
  explored : (found : Schedules) (w : Witness) → run.until ≡ None → IsExplored m.app run.acts c found
      → found.configurations ≤ run.most → IsShownBy m.app run.acts c found.runs w
      → IsKeptWith (shown_text (length entries) found w, status_of found) modulus entries (shown_events w) history output
      → IsFoundBy m run modulus entries c history output
  searched : (target : Target) (found : Search) → run.until ≡ Some target → IsSearch m.counts m.app run.acts target c found
      → AreFew run.most found → IsLeftBy found modulus entries history output
      → IsFoundBy m run modulus entries c history output

-- what is left for a script on a configuration: what an exploration leaves from the configuration that its lines leave,
-- where all of them are good
pub data IsShown {L : Type 0} (m : Meaning L) (run : Exploring) (c : Configuration L) (script history : List ℕ)
    (output : List ℕ × Status) : Type 0 where
  too_long : 1048576 < length script → history ≡ [] → output ≡ (too_long_text, BadInput)
      → IsShown m run c script history output
  bad_line : (n : ℕ) → length script ≤ 1048576 → bad_line_of m.names script ≡ Some n → history ≡ []
      → output ≡ (bad_line_text n, BadInput) → IsShown m run c script history output
  explored : length script ≤ 1048576 → bad_line_of m.names script ≡ None
      → IsFoundBy m run c.modulus (entries_of_lines m c 1 (lines_of script)) (left_by m c script) history output
      → IsShown m run c script history output

abbrev pub Shows : Exploring → (script history : List ℕ) → FollowUp
Shows run script history L m c output = IsShown m run c script history output

-- what is left for the text of a topology, and of a snapshot where one is given: the topology is judged first, and bad
-- input leaves no history
pub record IsShownText (run : Exploring) (script topology : List ℕ) (snapshot : Option (List ℕ)) (history : List ℕ)
    (output : List ℕ × Status) : Type 0 where
  pub opened : IsOpenedText (Shows run script history) topology snapshot output
  pub unkept : output.1 ≡ BadInput → history ≡ []
