-- Runs of node threads where a node may be selected, from the booted configuration or a snapshot.
use Rattle.std.specs.Prelude.{◌≡◌, ◌≤◌, ℕ, List, [], IfSome, Ok, Option, Some, slice_get}
use Rattle.std.specs.Option.{option_or}
use Rattle.topology.specs.Graph.{Graph, IsNode}
use Rattle.reset_model.specs.Configuration.{Configuration}
use Rattle.reset_model.specs.declared.event.Event.{Event}
use Rattle.applications.specs.Meaning.{Meaning}
use Rattle.history.specs.HistoryText.{IsReadAs}
use Rattle.history.specs.Stretches.{steps}
use Rattle.node_threads.specs.Requests.{requests_at, requests_in}
use Rattle.node_threads.specs.declared.tasks.Task.{Task}
use Rattle.node_threads.specs.declared.run.RunCause.{RunCause}
use Rattle.node_threads.specs.declared.run.RunCause.TheVariants as cause
use Rattle.script_replay.specs.declared.status.Status.{Status}
use Rattle.script_replay.specs.declared.status.Status.TheVariants.{BadInput, Good}
use Rattle.reset_service.specs.Opened.{IsOpenedText}
use Rattle.reset_service.specs.Started.{FollowUp}
use Rattle.reset_service.specs.Threaded.{IsKept, strange_node_text}
use Rattle.reset_service.specs.declared.threaded.ThreadRun.{ThreadRun}
use Rattle.reset_service.specs.declared.told.Told.{Told}
use Rattle.reset_service.specs.declared.told.Told.TheVariants as told

-- what the nodes of a graph do in a run: the node that is named asks for resets, or else the least that is up
abbrev pub task_of : ThreadRun → Graph → Task
task_of run g =
    record { turns = run.turns; selected = option_or run.selected (slice_get g.nodes 0); resets = run.resets }

-- in a history of steps from a configuration on no node asks for more resets than the run lets it
abbrev pub AsksAsRun : {L : Type 0} → ThreadRun → Configuration L → List ℕ → Type 0
AsksAsRun run c history =
    (events : List Event) → IsReadAs history (Ok (c.modulus, steps events)) → (i : ℕ) → IsNode c.graph i
    → requests_in (steps events) i ≤ requests_at (task_of run c.graph) i

-- the history that node threads keep from a configuration on, and what is written of it, where the selected node, if one
-- is named, is judged before the number of nodes
pub data IsSelected {L : Type 0} (m : Meaning L) (run : ThreadRun) (c : Configuration L) (history : List ℕ)
    (output : List ℕ × Status) : Type 0 where
  strange_node : (i : ℕ) → run.selected ≡ Some i → (IsNode c.graph i → ⊥) → output ≡ (strange_node_text, BadInput)
      → IsSelected m run c history output
  ran : IfSome run.selected (λ i. IsNode c.graph i) → IsKept m c history output
      → (output.1 ≡ Good → AsksAsRun run c history) → IsSelected m run c history output

-- what may follow a topology and a snapshot
abbrev pub RunsSelected : ThreadRun → List ℕ → FollowUp
RunsSelected run history L m c output = IsSelected m run c history output

-- a run of node threads on the topology of a text, and from a snapshot where one is given, leaves this history, this
-- output and this status: the topology is judged first, then the snapshot, and bad input leaves no history
pub record IsSelectedText (run : ThreadRun) (topology : List ℕ) (snapshot : Option (List ℕ)) (history : List ℕ)
    (output : List ℕ × Status) : Type 0 where
  pub judged : IsOpenedText (RunsSelected run history) topology snapshot output
  pub unkept : output.1 ≡ BadInput → history ≡ []

-- ---- what private clauses cite

-- what a run comes to, before anything is written, whose threads gave no outcome for this cause
pub data IsToldOf (run : ThreadRun) (why : RunCause) (what : Told) : Type 0 where
  strange : (i : ℕ) → run.selected ≡ Some i → why ≡ cause.StrangeNode → what ≡ told.StrangeNode → IsToldOf run why what
  many : why ≡ cause.TooManyForThreads → what ≡ told.TooManyNodes → IsToldOf run why what
