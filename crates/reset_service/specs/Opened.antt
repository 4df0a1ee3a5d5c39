-- Runs that start from the booted configuration, or from the one that a snapshot names.
use Rattle.std.specs.Prelude.{◌≡◌, ℕ, List, Option}
use Rattle.topology.specs.Graph.{Graph}
use Rattle.topology.specs.declared.text.AppName.{AppName}
use Rattle.applications.specs.Choice.{ForApp}
use Rattle.applications.specs.Meaning.{Meaning}
use Rattle.reset_model.specs.Configuration.{Configuration}
use Rattle.script_replay.specs.Output.{IsJudged}
use Rattle.script_replay.specs.declared.status.Status.{Status}
use Rattle.script_replay.specs.declared.status.Status.TheVariants.{BadInput}
use Rattle.reset_service.specs.Started.{FollowUp, IsOpening, IsOpeningFault, start_fault_text}
use Rattle.reset_service.specs.declared.started.StartFault.{StartFault}

-- what is written where the snapshot, if one is given, is judged before what follows
pub data IsOpenedFrom {L : Type 0} (m : Meaning L) (g : Graph) (modulus : ℕ) (snapshot : Option (List ℕ))
    (Follows : Configuration L → List ℕ × Status → Type 0) (output : List ℕ × Status) : Type 0 where
  bad_snapshot : (f : StartFault) → IsOpeningFault m g snapshot f → output ≡ (start_fault_text f, BadInput)
      → IsOpenedFrom m g modulus snapshot Follows output
  opened : (c : Configuration L) → IsOpening m g modulus snapshot c → Follows c output
      → IsOpenedFrom m g modulus snapshot Follows output

-- the same for the application of a name
abbrev pub IsOpenedOf : FollowUp → AppName → Graph → ℕ → Option (List ℕ) → List ℕ × Status → Type 0
IsOpenedOf Follows app g modulus snapshot output =
    ForApp (λ L m. IsOpenedFrom m g modulus snapshot (Follows L m) output) app

-- what is written for the text of a topology, and of a snapshot where one is given: the topology is judged first
abbrev pub IsOpenedText : FollowUp → List ℕ → Option (List ℕ) → List ℕ × Status → Type 0
IsOpenedText Follows topology snapshot =
    IsJudged (λ app g modulus. IsOpenedOf Follows app g modulus snapshot) topology
