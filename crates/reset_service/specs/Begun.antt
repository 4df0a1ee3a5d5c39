-- Runs that start from a snapshot in place of the booted configuration, and leave a history.
use Rattle.std.specs.Prelude.{◌≡◌, ◌≤◌, ℕ, List, [], length}
use Rattle.topology.specs.Graph.{Graph}
use Rattle.topology.specs.TopologyText.{IsReadFault}
use Rattle.topology.specs.declared.text.AppName.{AppName}
use Rattle.topology.specs.declared.text.ReadFault.{ReadFault}
use Rattle.reset_model.specs.Configuration.{Configuration}
use Rattle.applications.specs.Choice.{ForApp}
use Rattle.applications.specs.Meaning.{Meaning}
use Rattle.script_replay.specs.Output.{IsJudged}
use Rattle.script_replay.specs.Recorded.{IsRecord}
use Rattle.script_replay.specs.declared.status.Status.{Status}
use Rattle.script_replay.specs.declared.status.Status.TheVariants.{BadInput}
use Rattle.snapshots.specs.Named.{IsSnapshotOf}
use Rattle.reset_service.specs.Drove.{IsDrove}
use Rattle.reset_service.specs.Started.{IsStartFault, start_fault_text}
use Rattle.reset_service.specs.Threaded.{IsKept}
use Rattle.reset_service.specs.declared.started.StartFault.{StartFault}

-- the history and the output where the snapshot is judged before what follows it: one that can't be started from leaves
-- no history
pub data IsBegunFrom {L : Type 0} (m : Meaning L) (g : Graph) (modulus : ℕ) (snapshot : List ℕ)
    (Follows : Configuration L → List ℕ → List ℕ × Status → Type 0) (history : List ℕ) (output : List ℕ × Status) :
    Type 0 where
  bad_snapshot : (f : StartFault) → IsStartFault m g snapshot f → history ≡ [] → output ≡ (start_fault_text f, BadInput)
      → IsBegunFrom m g modulus snapshot Follows history output
  begun : (c : Configuration L) → length snapshot ≤ 67108864 → IsSnapshotOf m g modulus snapshot c
      → Follows c history output → IsBegunFrom m g modulus snapshot Follows history output

-- the history and the output that follow a snapshot, for any application
abbrev pub Sequel : Type 1
Sequel = (L : Type 0) → Meaning L → Configuration L → List ℕ → List ℕ × Status → Type 0

-- the same for the application of a name
abbrev pub IsBegunOf : Sequel → AppName → Graph → ℕ → List ℕ → List ℕ → List ℕ × Status → Type 0
IsBegunOf Follows app g modulus snapshot history output =
    ForApp (λ L m. IsBegunFrom m g modulus snapshot (Follows L m) history output) app

-- the texts of a topology and of a snapshot leave this history, this output and this status: the topology is judged
-- first, and a bad one leaves no history
pub record IsBegunText (Follows : Sequel) (topology snapshot history : List ℕ) (output : List ℕ × Status) : Type 0 where
  pub judged : IsJudged (λ app g modulus. IsBegunOf Follows app g modulus snapshot history) topology output
  pub unkept : (f : ReadFault) → IsReadFault topology f → history ≡ []

-- what may follow: a script whose history is kept, a run of the seeded scheduler, and one of node threads, which keeps
-- no history where there are too many nodes
abbrev pub Records : List ℕ → Sequel
Records script L m c history output = IsRecord m c script history output

abbrev pub Drives : (steps seed faults : ℕ) → Sequel
Drives steps seed faults L m c history output = IsDrove m c steps seed faults history output

abbrev pub RunsThreads : Sequel
RunsThreads L m c history output = IsKept m c history output × (output.1 ≡ BadInput → history ≡ [])
