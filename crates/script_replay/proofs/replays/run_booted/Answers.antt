use Rattle.std.proofs.Common.{◌≡◌}
use Rattle.applications.specs.Meaning.{meaning_of}
use Rattle.script_replay.specs.Output.{IsReplay, script_output}
use Rattle.script_replay.specs.Output.IsReplay.{replayed}
use Rattle.script_replay.proofs.Runs.{leaves_weaker}
use Rattle.script_replay.proofs.replays.run_booted.Goals as goal

pub returns-in-Ok-clause-leaves : goal.returns-in-Ok-clause-leaves
returns-in-Ok-clause-leaves g c =
    let m =
    meaning_of g.P.Application.app g.P.Application.text g.P.Application.from_text g.P.Application.names
    g.P.Invariant.counts in
    leaves_weaker (λ o. o ≡ script_output m c.args.purpose c.in-Ok.config c.args.script.now)
    (IsReplay m c.args.purpose c.args.network.topology c.args.network.modulus c.args.script.now) _ _ c.run_script.result
    (λ o is. replayed c.in-Ok.config c.in-Ok.ensures.ok is) c.run_script.ensures.leaves
