-- What `check --whole` writes: what `check` writes, and of each component whether the application's invariant holds there.
use Rattle.std.specs.Prelude.{◌≡◌, ℕ, Bool, if◌then◌else◌, List, [], ◌++◌}
use Rattle.std.specs.List.{flat_map, list_all}
use Rattle.std.specs.Option.{is_none}
use Rattle.app_invariants.specs.Verdicts.{verdicts_of}
use Rattle.reset_model.specs.Configuration.{Configuration}
use Rattle.applications.specs.Meaning.{Meaning}
use Rattle.script_replay.specs.Lines.{lines_of}
use Rattle.script_replay.specs.Output.{answers, script_output}
use Rattle.script_replay.specs.VerdictText.{Judged, verdict_line}
use Rattle.script_replay.specs.declared.status.Purpose.TheVariants as purpose
use Rattle.script_replay.specs.declared.status.Status.{Status}
use Rattle.script_replay.specs.declared.status.Status.TheVariants.{FaultsFound, BadInput}
use Rattle.reset_service.specs.Started.{FollowUp}

-- the invariant holds in each component
abbrev pub all_hold : List Judged → Bool
all_hold verdicts = list_all (λ v. is_none v.1) verdicts

-- what follows a check that ended so, and the status of the whole: nothing where the input was bad
abbrev pub after_check : List Judged → Status → List ℕ × Status
after_check verdicts BadInput = ([], BadInput)
after_check verdicts status =
    (flat_map verdict_line verdicts, if all_hold verdicts then status else FaultsFound)

-- what is written for a script on a configuration, and the status: a check, and then the verdicts on what its lines leave
abbrev pub whole_output : {L : Type 0} → Meaning L → Bool → Configuration L → List ℕ → List ℕ × Status
whole_output m repairs c script =
    let checked = script_output m (purpose.Check repairs) c script in
    let last = after_check (verdicts_of m.counts m.app (answers m c 1 (lines_of script)).config) checked.1 in
    (checked.0 ++ last.0, last.1)

-- the same, from the configuration where a run starts
abbrev pub WholeCheck : Bool → List ℕ → FollowUp
WholeCheck repairs script L m c output = output ≡ whole_output m repairs c script
