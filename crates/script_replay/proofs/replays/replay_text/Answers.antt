use Rattle.std.proofs.Common.{◌≡◌, ◌≢◌}
use Rattle.script_replay.specs.Output.{IsOutput, IsReplay, IsReplayOf, bad_topology_text}
use Rattle.script_replay.specs.Output.IsJudged.{bad_topology, good_topology}
use Rattle.script_replay.specs.declared.status.Purpose.TheVariants.{Replay}
use Rattle.script_replay.specs.declared.status.Status.TheVariants.{BadInput}
use Rattle.topology.specs.declared.text.ReadFault.TheVariants.{NoMemory}
use Rattle.script_replay.proofs.Runs.{leaves_weaker}
use Rattle.script_replay.proofs.ByName.{left_for}
use Rattle.script_replay.proofs.replays.replay_text.Goals as goal

pub returns-in-Ok-clause-leaves : goal.returns-in-Ok-clause-leaves
returns-in-Ok-clause-leaves g c =
    leaves_weaker
    (IsReplayOf c.in-Ok.network.app Replay c.in-Ok.network.topology c.in-Ok.network.modulus c.args.script.now)
    (IsOutput Replay c.args.topology.now c.args.script.now) _ _ c.run_app.result
    (λ o is. good_topology c.in-Ok.network.topology c.in-Ok.network.app c.in-Ok.network.modulus c.in-Ok.ensures.ok is)
    (left_for (λ L m. IsReplay m Replay c.in-Ok.network.topology c.in-Ok.network.modulus c.args.script.now)
    c.in-Ok.network.app _ _ _ c.run_app.ensures.leaves)

pub returns-in-Err-clause-leaves : goal.returns-in-Err-clause-leaves
returns-in-Err-clause-leaves g c =
    leaves_weaker (λ o. (c.in-Err.fault ≢ NoMemory) × (o ≡ (bad_topology_text c.in-Err.fault, BadInput)))
    (IsOutput Replay c.args.topology.now c.args.script.now) _ _ c.refuse_topology.result
    (λ o is. bad_topology c.in-Err.fault (c.in-Err.ensures.err is.0) is.1) c.refuse_topology.ensures.leaves
