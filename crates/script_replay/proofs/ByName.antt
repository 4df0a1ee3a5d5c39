-- What a run leaves with the application that is named.
use Rattle.std.proofs.Common.{ℕ, List, Option, Result}
use Rattle.topology.specs.declared.text.AppName.{AppName}
use Rattle.applications.specs.Choice.{ForApp}
use Rattle.applications.specs.Meaning.{Meaning}
use Rattle.applications.proofs.Choosing.{within, within_both}
use Rattle.script_replay.specs.Output.{Leaves}
use Rattle.script_replay.specs.Recorded.{LeavesRecord}
use Rattle.script_replay.specs.declared.status.RunStop.{RunStop}
use Rattle.script_replay.specs.declared.status.Status.{Status}

-- what is left with it is an output of it
pub left_for : (F : (L : Type 0) → Meaning L → List ℕ × Status → Type 0) (app : AppName) (old new : Option (List ℕ))
    (result : Result Status RunStop) → ForApp (λ L m. Leaves (F L m) old new result) app
    → Leaves (λ output. ForApp (λ L m. F L m output) app) old new result
left_for F app old new result = within (λ O. Leaves O old new result) F app

-- and with a history
pub record_for : (F : (L : Type 0) → Meaning L → List ℕ → List ℕ × Status → Type 0) (app : AppName)
    (old new before after : Option (List ℕ)) (result : Result Status RunStop)
    → ForApp (λ L m. LeavesRecord (F L m) old new before after result) app
    → LeavesRecord (λ history output. ForApp (λ L m. F L m history output) app) old new before after result
record_for F app old new before after result =
    within_both (λ R. LeavesRecord R old new before after result) F app
