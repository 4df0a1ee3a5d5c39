-- Where a run starts: the booted configuration, or the one that a snapshot names.
use Rattle.std.specs.Prelude.{◌≡◌, ◌<◌, ◌≤◌, ℕ, List, codes, length, Option, Some, None}
use Rattle.topology.specs.Graph.{Graph}
use Rattle.reset_model.specs.Configuration.{Configuration}
use Rattle.reset_model.specs.Outcome.{IsBoot}
use Rattle.applications.specs.Meaning.{Meaning}
use Rattle.history.specs.HistoryText.{ended}
use Rattle.script_replay.specs.Output.{script_output}
use Rattle.script_replay.specs.declared.status.Purpose.{Purpose}
use Rattle.script_replay.specs.declared.status.Status.{Status}
use Rattle.snapshots.specs.FaultText.{bad_snapshot_text}
use Rattle.snapshots.specs.Named.{IsSnapshotOf}
use Rattle.snapshots.specs.Reading.{IsFirstFault}
use Rattle.reset_service.specs.Pictured.{IsPicture}
use Rattle.reset_service.specs.Planned.{IsPlan}
use Rattle.reset_service.specs.Verified.{IsVerified}
use Rattle.reset_service.specs.declared.started.StartFault.{StartFault}
use Rattle.reset_service.specs.declared.started.StartFault.TheVariants.{TooLong, Bad, NoMemory}

-- the line of a snapshot that can't be started from
abbrev pub start_fault_text : StartFault → List ℕ
start_fault_text TooLong = ended (codes "bad snapshot TooLong")
start_fault_text (Bad f) = bad_snapshot_text f
start_fault_text NoMemory = ended (codes "bad snapshot NoMemory")

-- the text is no snapshot on the graph for this reason: it is too long, or has this first fault
abbrev pub IsStartFault : {L : Type 0} → Meaning L → Graph → List ℕ → StartFault → Type 0
IsStartFault m g snapshot TooLong = 67108864 < length snapshot
IsStartFault m g snapshot (Bad f) = (length snapshot ≤ 67108864) × IsFirstFault m g snapshot f
IsStartFault m g snapshot NoMemory = ⊥

-- a run starts from this configuration: the booted one, or the one that a snapshot names
abbrev pub IsOpening : {L : Type 0} → Meaning L → Graph → ℕ → Option (List ℕ) → Configuration L → Type 0
IsOpening m g modulus None c = IsBoot m.app g modulus c
IsOpening m g modulus (Some snapshot) c = (length snapshot ≤ 67108864) × IsSnapshotOf m g modulus snapshot c

-- no run starts from the snapshot for this reason
abbrev pub IsOpeningFault : {L : Type 0} → Meaning L → Graph → Option (List ℕ) → StartFault → Type 0
IsOpeningFault m g None f = ⊥
IsOpeningFault m g (Some snapshot) f = IsStartFault m g snapshot f

-- what follows a configuration that a run starts from, for any application
abbrev pub FollowUp : Type 1
FollowUp = (L : Type 0) → Meaning L → Configuration L → List ℕ × Status → Type 0

-- what may follow: the answers to a script, a plan for what it leaves, and what a history is verified and drawn as
abbrev pub Answers : Purpose → List ℕ → FollowUp
Answers purpose script L m c output = output ≡ script_output m purpose c script

abbrev pub Plans : List ℕ → FollowUp
Plans script L m c output = IsPlan m c script output

abbrev pub Verifies : List ℕ → FollowUp
Verifies history L m c output = IsVerified m c history output

abbrev pub Draws : List ℕ → FollowUp
Draws history L m c output = IsPicture m c history output
