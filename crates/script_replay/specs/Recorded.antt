-- What the lines of a script leave in a history, and what a recording leaves to its two writers.
use Rattle.std.specs.Prelude.{◌≡◌, ◌⊎◌, ◌+◌, ◌<◌, ◌≤◌, ℕ, List, [], ◌∷◌, ◌++◌, length, Option, IsSome, Result, Ok, Err}
use Rattle.std.specs.Io.KnownBytes.{Appends, Keeps}
use Rattle.std.specs.List.{flat_map}
use Rattle.topology.specs.Graph.{Graph}
use Rattle.topology.specs.TopologyText.{IsReadFault}
use Rattle.topology.specs.declared.text.AppName.{AppName}
use Rattle.topology.specs.declared.text.ReadFault.{ReadFault}
use Rattle.action_tables.specs.Written.{AppendsPrefix}
use Rattle.reset_model.specs.Configuration.{Configuration}
use Rattle.reset_model.specs.Outcome.{IsBoot}
use Rattle.reset_model.specs.Planned.{Outcome, outcome_of}
use Rattle.reset_model.specs.declared.event.Event.{Event}
use Rattle.applications.specs.Choice.{ForApp}
use Rattle.applications.specs.Meaning.{Meaning}
use Rattle.fault_inject.specs.Effects.{injected}
use Rattle.fault_inject.specs.declared.fault.Fault.{Fault}
use Rattle.fault_inject.specs.declared.refusal.FaultRefusal.{FaultRefusal}
use Rattle.history.specs.Entries.{replayed}
use Rattle.history.specs.HistoryText.{IsReadAs, history_text}
use Rattle.history.specs.declared.entry.Entry.{Entry}
use Rattle.history.specs.declared.entry.Entry.TheVariants as entry
use Rattle.script_replay.specs.Lines.{lines_of}
use Rattle.script_replay.specs.Output.{IsJudged, line_answer, drawn, if_good, script_output}
use Rattle.script_replay.specs.Script.{line_of}
use Rattle.script_replay.specs.Stretches.{watch_events}
use Rattle.script_replay.specs.declared.script.Command.TheVariants.{Step, Inject, Draw, Watch}
use Rattle.script_replay.specs.declared.script.Line.{Line}
use Rattle.script_replay.specs.declared.script.Line.TheVariants.{Asks}
use Rattle.script_replay.specs.declared.status.Purpose.TheVariants as purposes
use Rattle.script_replay.specs.declared.status.RunStop.{RunStop}
use Rattle.script_replay.specs.declared.status.RunStop.TheVariants.{ReadFailed, WriteFailed}
use Rattle.script_replay.specs.declared.status.RunStop.TheVariants as stop
use Rattle.script_replay.specs.declared.status.Status.{Status}

-- ---- entries

-- the entry of an event with this outcome: none where it is refused
abbrev pub event_entry : {L : Type 0} → Event → Outcome L → List Entry
event_entry e (Ok left) = entry.Step e ∷ []
event_entry e (Err refusal) = []

-- the same of a fault
abbrev pub fault_entry : {L : Type 0} → Fault → Result (Configuration L) FaultRefusal → List Entry
fault_entry f (Ok left) = entry.Disturbed f ∷ []
fault_entry f (Err refusal) = []

abbrev pub event_entries : {L : Type 0} → Meaning L → Configuration L → Event → List Entry
event_entries m c e = event_entry e (outcome_of m.app c e)

abbrev pub fault_entries : {L : Type 0} → Meaning L → Configuration L → Fault → List Entry
fault_entries m c f = fault_entry f (injected m.app m.from_text c f)

-- the entries that a line leaves, at most one: its own event or fault, the fault that a seed draws, or the request of a
-- node that watches and has an alarm
abbrev pub line_entries : {L : Type 0} → Meaning L → Configuration L → Line → List Entry
line_entries m c (Asks (Step e)) = event_entries m c e
line_entries m c (Asks (Inject f)) = fault_entries m c f
line_entries m c (Asks (Draw seed)) = fault_entries m c (drawn c.graph.ids seed)
line_entries m c (Asks (Watch i)) = flat_map (event_entries m c) (watch_events m c i)
line_entries m c line = []

-- the entries that lines leave, in their order, up to the first bad line. The first line has the number n
unfoldable pub entries_of_lines : {L : Type 0} → Meaning L → Configuration L → ℕ → List (List ℕ) → List Entry
entries_of_lines m c n [] = []
entries_of_lines m c n (line ∷ lines) =
    let a = line_answer m c n line in
    line_entries m c (line_of m.names line) ++ if_good a.status (entries_of_lines m a.config (n + 1) lines) []

-- ---- records

-- the history of a script: that of the entries of its lines, which are allowed where they stand and as which it is
-- read, with sessions modulo the number of the configuration; a script that is too long leaves none
pub data IsHistory {L : Type 0} (m : Meaning L) (c : Configuration L) (script history : List ℕ) : Type 0 where
  too_long : 1048576 < length script → history ≡ [] → IsHistory m c script history
  kept : (entries : List Entry) → length script ≤ 1048576 → entries ≡ entries_of_lines m c 1 (lines_of script)
      → IsSome (replayed m.app m.from_text c entries) → IsReadAs history (Ok (c.modulus, entries))
      → history ≡ history_text c.modulus entries → IsHistory m c script history

-- the history of a script, and what a replay of it writes, from a configuration on
pub record IsRecord {L : Type 0} (m : Meaning L) (c : Configuration L) (script history : List ℕ)
    (output : List ℕ × Status) : Type 0 where
  pub history_is : IsHistory m c script history
  pub output_is : output ≡ script_output m purposes.Replay c script

-- the same from the booted configuration of a graph, with sessions modulo this number
abbrev pub IsRecordFrom : {L : Type 0} → Meaning L → Graph → ℕ → List ℕ → List ℕ → List ℕ × Status → Type 0
IsRecordFrom {L = L} m g modulus script history output =
    (c : Configuration L) × IsBoot m.app g modulus c × IsRecord m c script history output

-- the same for the application of a name
abbrev pub IsRecordOf : AppName → Graph → ℕ → List ℕ → List ℕ → List ℕ × Status → Type 0
IsRecordOf app g modulus script history output = ForApp (λ L m. IsRecordFrom m g modulus script history output) app

-- a script on the topology of a text leaves this history, this output and this status: a bad topology is answered
-- first, and leaves no history
pub record IsRecorded (topology script history : List ℕ) (output : List ℕ × Status) : Type 0 where
  pub judged : IsJudged (λ app g modulus. IsRecordOf app g modulus script history) topology output
  pub unkept : (f : ReadFault) → IsReadFault topology f → history ≡ []

-- ---- what a recording leaves to its two writers

-- it was cut short after the history was written: a prefix of the output was written too
abbrev pub IsCutAfter : (List ℕ → List ℕ × Status → Type 0) → (old new : Option (List ℕ))
    → (before after : Option (List ℕ)) → Type 0
IsCutAfter R old new before after =
    (history : List ℕ) × (output : List ℕ × Status) × R history output × Appends old new history
    × AppendsPrefix before after output.0

-- or while it was written
abbrev pub IsCutWithin : (List ℕ → List ℕ × Status → Type 0) → (old new : Option (List ℕ))
    → (before after : Option (List ℕ)) → Type 0
IsCutWithin R old new before after =
    (history : List ℕ) × (output : List ℕ × Status) × R history output × AppendsPrefix old new history
    × Keeps before after

-- of a history that went to one writer, and of an output that went to the other after it
abbrev pub LeavesRecord : (List ℕ → List ℕ × Status → Type 0) → (old new : Option (List ℕ))
    → (before after : Option (List ℕ)) → Result Status RunStop → Type 0
LeavesRecord R old new before after (Ok status) =
    (history written : List ℕ) × R history (written, status) × Appends old new history × Appends before after written
LeavesRecord R old new before after (Err ReadFailed) = Keeps old new × Keeps before after
LeavesRecord R old new before after (Err WriteFailed) =
    IsCutWithin R old new before after ⊎ IsCutAfter R old new before after
LeavesRecord R old new before after (Err stop.NoMemory) =
    (Keeps old new × Keeps before after) ⊎ IsCutAfter R old new before after
LeavesRecord R old new before after (Err stop.ThreadFailed) = ⊥
LeavesRecord R old new before after (Err stop.NotClosed) = ⊥
