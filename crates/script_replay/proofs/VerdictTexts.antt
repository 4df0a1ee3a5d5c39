-- The lines that tell of an application's invariant.
use Rattle.std.proofs.Common.{◌≡◌, List, sym, ap}
use Rattle.std.specs.List.{flat_map}
use Rattle.app_invariants.specs.Verdicts.{verdicts_of}
use Rattle.reset_model.specs.Configuration.{Configuration}
use Rattle.applications.specs.Meaning.{Meaning}
use Rattle.script_replay.specs.Output.{invariant_lines}
use Rattle.script_replay.specs.VerdictText.{Judged, verdict_line}

pub invariant_lines-is : {L : Type 0} (m : Meaning L) (c : Configuration L) (verdicts : List Judged)
    → verdicts ≡ verdicts_of m.counts m.app c → invariant_lines m c ≡ flat_map verdict_line verdicts
unfolding invariant_lines
invariant_lines-is m c verdicts is = ap (flat_map verdict_line) (sym is)
