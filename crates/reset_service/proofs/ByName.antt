-- What a run leaves with the application that is named.
use Rattle.std.proofs.Common.{ℕ, List, Option, Result, IfOk}
use Rattle.topology.specs.Graph.{Graph}
use Rattle.topology.specs.declared.text.AppName.{AppName}
use Rattle.applications.specs.Choice.{ForApp}
use Rattle.applications.specs.Meaning.{Meaning}
use Rattle.applications.proofs.Choosing.{some_within, within, within_both}
use Rattle.script_replay.specs.Output.{Leaves}
use Rattle.script_replay.specs.Recorded.{LeavesRecord}
use Rattle.script_replay.specs.declared.status.RunStop.{RunStop}
use Rattle.script_replay.specs.declared.status.Status.{Status}
use Rattle.script_replay.specs.declared.tally.Tally.{Tally}
use Rattle.reset_service.specs.Opened.{IsOpenedFrom, IsOpenedOf}
use Rattle.reset_service.specs.Started.{FollowUp}
use Rattle.reset_service.specs.Verified.{LeavesOfReader}

-- what is left with it, from where a run starts
pub opened_left : (Follows : FollowUp) (app : AppName) (g : Graph) (modulus : ℕ) (snapshot old new : Option (List ℕ))
    (result : Result Status RunStop)
    → ForApp (λ L m. Leaves (IsOpenedFrom m g modulus snapshot (Follows L m)) old new result) app
    → Leaves (IsOpenedOf Follows app g modulus snapshot) old new result
opened_left Follows app g modulus snapshot old new result =
    within (λ O. Leaves O old new result) (λ L m. IsOpenedFrom m g modulus snapshot (Follows L m)) app

-- of a reader's text
pub read_for : (F : (L : Type 0) → Meaning L → List ℕ → List ℕ × Status → Type 0) (app : AppName)
    (known old new : Option (List ℕ)) (result : Result Status RunStop)
    → ForApp (λ L m. LeavesOfReader known (F L m) old new result) app
    → LeavesOfReader known (λ text output. ForApp (λ L m. F L m text output) app) old new result
read_for F app known old new result = within_both (λ R. LeavesOfReader known R old new result) F app

pub opened_read : (Follows : List ℕ → FollowUp) (app : AppName) (g : Graph) (modulus : ℕ)
    (snapshot known old new : Option (List ℕ)) (result : Result Status RunStop)
    → ForApp (λ L m. LeavesOfReader known (λ text. IsOpenedFrom m g modulus snapshot (Follows text L m)) old new result) app
    → LeavesOfReader known (λ text. IsOpenedOf (Follows text) app g modulus snapshot) old new result
opened_read Follows app g modulus snapshot = read_for (λ L m text. IsOpenedFrom m g modulus snapshot (Follows text L m)) app

-- and what a run comes to before anything is written
pub told_for : {T : Type 0} (F : (L : Type 0) → Meaning L → T → Type 0) (app : AppName) (result : Result T RunStop)
    → ForApp (λ L m. IfOk result (F L m)) app → IfOk result (λ told. ForApp (λ L m. F L m told) app)
told_for F app result = within (λ O. IfOk result O) F app

-- of a tally, and of what is left beside it
pub tallied_for : (N : Tally → Type 0) (Follows : Tally → FollowUp) (app : AppName) (g : Graph) (modulus : ℕ)
    (snapshot old new : Option (List ℕ)) (result : Result Status RunStop)
    → ForApp (λ L m. (t : Tally) × N t × Leaves (IsOpenedFrom m g modulus snapshot (Follows t L m)) old new result) app
    → (t : Tally) × N t × Leaves (IsOpenedOf (Follows t) app g modulus snapshot) old new result
tallied_for N Follows app g modulus snapshot old new result =
    some_within N (λ O. Leaves O old new result) (λ L m t. IsOpenedFrom m g modulus snapshot (Follows t L m)) app

-- and of a history of which something else holds too
pub shown_for : (Follows : List ℕ → FollowUp) (N : List ℕ → List ℕ × Status → Type 0) (app : AppName) (g : Graph)
    (modulus : ℕ) (snapshot old new before after : Option (List ℕ)) (result : Result Status RunStop)
    → ForApp
    (λ L m. LeavesRecord (λ h o. IsOpenedFrom m g modulus snapshot (Follows h L m) o × N h o) old new before after result)
    app
    → LeavesRecord (λ h o. IsOpenedOf (Follows h) app g modulus snapshot o × N h o) old new before after result
shown_for Follows N app g modulus snapshot old new before after result =
    within_both (λ R. LeavesRecord (λ h o. R h o × N h o) old new before after result)
    (λ L m h. IsOpenedFrom m g modulus snapshot (Follows h L m)) app
