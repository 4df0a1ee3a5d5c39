-- What a run of node threads leaves: the history that the threads keep, and what is written of it.
use Rattle.std.specs.Prelude.{◌≡◌, ◌⊎◌, ◌<◌, ◌≤◌, ℕ, List, [], ◌∷◌, ◌++◌, length, codes, All, Option, IsSome, Result}
use Rattle.std.specs.Prelude.{Ok, Err}
use Rattle.std.specs.Fmt.{decimal}
use Rattle.std.specs.List.{concat}
use Rattle.std.specs.Io.KnownBytes.{Appends, Keeps}
use Rattle.action_tables.specs.Written.{AppendsPrefix}
use Rattle.topology.specs.Graph.{Graph, IsNode}
use Rattle.topology.specs.declared.text.AppName.{AppName}
use Rattle.reset_model.specs.declared.event.Event.{Event}
use Rattle.reset_model.specs.Configuration.{Configuration}
use Rattle.reset_model.specs.BySteps.{IsBySteps}
use Rattle.reset_model.specs.Outcome.{IsBoot}
use Rattle.reset_model.specs.SoundSteps.{HoldsAt}
use Rattle.reset_model.specs.Sound.{IsSound}
use Rattle.applications.specs.Choice.{ForApp, ForInvariant}
use Rattle.applications.specs.Meaning.{Meaning}
use Rattle.history.specs.Entries.{replayed}
use Rattle.history.specs.HistoryText.{IsReadAs, ended}
use Rattle.history.specs.Reports.{reports_of}
use Rattle.history.specs.Stretches.{IsStretch, IsTrueReport, Stretch, steps}
use Rattle.reset_service.specs.Counts.{counts_line}
use Rattle.reset_service.specs.Drove.{drove_line}
use Rattle.reset_service.specs.Started.{start_fault_text}
use Rattle.script_replay.specs.Output.{IsJudged, bad_topology_text}
use Rattle.script_replay.specs.declared.status.RunStop.{RunStop}
use Rattle.script_replay.specs.declared.status.RunStop.TheVariants as stop
use Rattle.script_replay.specs.declared.status.Status.{Status}
use Rattle.script_replay.specs.declared.status.Status.TheVariants.{Good, BadInput}
use Rattle.reset_service.specs.declared.told.Told.{Told}
use Rattle.reset_service.specs.declared.told.Told.TheVariants.{BadTopology, BadSnapshot, StrangeNode, TooManyNodes}
use Rattle.reset_service.specs.declared.told.Told.TheVariants.{Kept, Driven}

-- ---- lines

-- the line of the numbers of nodes, of entries and of reports
abbrev pub threads_line : ℕ → ℕ → ℕ → List ℕ
threads_line nodes entries reports =
    concat (codes "threads " ∷ decimal nodes ∷ []) ++ counts_line (codes " nodes ") entries reports

-- the line of a topology that has more nodes than there may be threads
abbrev pub too_many_text : List ℕ
too_many_text = ended (codes "bad topology TooManyForThreads")

-- the line of a selected node that isn't one that is up
abbrev pub strange_node_text : List ℕ
strange_node_text = ended (codes "refused StrangeNode")

-- ---- the history and the output of a run

-- the history that node threads keep from a configuration on, with sessions modulo its number, and what is written of
-- it: a step after the other, each allowed where it stands, and no fault
pub data IsKept {L : Type 0} (m : Meaning L) (c : Configuration L) (history : List ℕ) (output : List ℕ × Status) :
    Type 0 where
  too_many : 64 < length c.graph.nodes → output ≡ (too_many_text, BadInput) → IsKept m c history output
  kept : (events : List Event) → length c.graph.nodes ≤ 64 → IsReadAs history (Ok (c.modulus, steps events))
      → IsSome (replayed m.app m.from_text c (steps events))
      → output ≡ (
        threads_line (length c.graph.nodes) (length events)
            (length (reports_of m.app m.from_text c (steps events))),
        Good,
      )
      → IsKept m c history output

-- the same from the booted configuration of a graph, with sessions modulo this number
abbrev pub IsKeptFrom : {L : Type 0} → Meaning L → Graph → ℕ → List ℕ → List ℕ × Status → Type 0
IsKeptFrom {L = L} m g modulus history output =
    (c : Configuration L) × IsBoot m.app g modulus c × IsKept m c history output

-- the same for the application of a name
abbrev pub IsKeptOf : AppName → Graph → ℕ → List ℕ → List ℕ × Status → Type 0
IsKeptOf app g modulus history output = ForApp (λ L m. IsKeptFrom m g modulus history output) app

-- a run of node threads on the topology of a text leaves this history, this output and this status: a bad topology is
-- answered first, and leaves no history
pub record IsThreaded (topology history : List ℕ) (output : List ℕ × Status) : Type 0 where
  pub judged : IsJudged (λ app g modulus. IsKeptOf app g modulus history) topology output
  pub unkept : output.1 ≡ BadInput → history ≡ []

-- ---- what a run leaves to its two writers

-- it was cut short by a writer: the history comes first
abbrev pub IsCutShort : (old new : Option (List ℕ)) → (before after : Option (List ℕ)) → (history written : List ℕ)
    → Type 0
IsCutShort old new before after history written =
    (AppendsPrefix old new history × Keeps before after)
    ⊎ (Appends old new history × AppendsPrefix before after written)

-- of a history that went to one writer and an output that went to the other. Only a writer cuts a run short in the
-- middle: after any other stop nothing was written
abbrev pub LeavesBoth : (List ℕ → List ℕ × Status → Type 0) → (old new : Option (List ℕ))
    → (before after : Option (List ℕ)) → Result Status RunStop → Type 0
LeavesBoth O old new before after (Ok status) =
    (history written : List ℕ) × O history (written, status) × Appends old new history × Appends before after written
LeavesBoth O old new before after (Err stop.ReadFailed) = ⊥
LeavesBoth O old new before after (Err stop.WriteFailed) =
    (history : List ℕ) × (output : List ℕ × Status) × O history output
    × IsCutShort old new before after history output.0
LeavesBoth O old new before after (Err stop.NoMemory) = Keeps old new × Keeps before after
LeavesBoth O old new before after (Err stop.ThreadFailed) = Keeps old new × Keeps before after
LeavesBoth O old new before after (Err stop.NotClosed) = Keeps old new × Keeps before after

-- ---- what was kept is a run

-- all events from a configuration on, as one stretch
abbrev pub whole : {L : Type 0} → Configuration L → List Event → Configuration L → Stretch L
whole c events left = record { before = []; events = events; rest = []; here = c; left = left }

-- a history and a line tell a run from the booted configuration of a graph, with sessions modulo this number, whose
-- registers are sound: its steps are one undisturbed stretch, of which the headline holds, the
-- application's fact Inv holds in each component at the end, and each of its reports is true. The line counts nodes, steps and reports
pub record TellsRun {L : Type 0} (m : Meaning L) (Inv : Graph → (ℕ → L) → Type 0) (g : Graph) (modulus : ℕ)
    (history line : List ℕ) : Type 0 where
  pub opening : Configuration L
  pub events : List Event
  pub left : Configuration L
  pub booted : IsBoot m.app g modulus opening
  pub sound : IsSound opening
  pub read : IsReadAs history (Ok (modulus, steps events))
  pub stretch : IsStretch m.app m.from_text opening (steps events) (whole opening events left)
  pub lawful : IsBySteps m.app Inv opening events left
  pub invariant : (i : ℕ) → IsNode g i → HoldsAt m.app Inv left i
  pub told : line ≡ threads_line (length g.nodes) (length events)
      (length (reports_of m.app m.from_text opening (steps events)))
  pub true_reports : All (IsTrueReport m.app m.from_text opening (steps events) (whole opening events left))
      (reports_of m.app m.from_text opening (steps events))

-- the same for the application of a name, with its fact
abbrev pub TellsRunOf : AppName → Graph → ℕ → List ℕ → List ℕ → Type 0
TellsRunOf app g modulus history line = ForInvariant (λ L m Inv. TellsRun m Inv g modulus history line) app

-- ---- what private clauses cite: what a run comes to before anything is written

abbrev pub told_history : Told → List ℕ
told_history (Kept k) = k.history.items
told_history (Driven d) = d.text.items
told_history told = []

abbrev pub told_output : Told → List ℕ × Status
told_output (BadTopology f) = (bad_topology_text f, BadInput)
told_output (BadSnapshot f) = (start_fault_text f, BadInput)
told_output StrangeNode = (strange_node_text, BadInput)
told_output TooManyNodes = (too_many_text, BadInput)
told_output (Kept k) = (threads_line k.nodes k.entries k.reports, Good)
told_output (Driven d) = (drove_line d.entries d.reports, Good)
