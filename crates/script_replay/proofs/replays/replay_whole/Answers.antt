use Rattle.script_replay.specs.Output.{IsJoinedOutput, IsOutput}
use Rattle.script_replay.specs.Output.IsJoinedOutput.{cut}
use Rattle.script_replay.specs.declared.status.Purpose.TheVariants.{Replay}
use Rattle.script_replay.proofs.Runs.{leaves_weaker}
use Rattle.script_replay.proofs.replays.replay_whole.Goals as goal

pub returns-clause-leaves : goal.returns-clause-leaves
returns-clause-leaves g c =
    leaves_weaker (IsOutput Replay c.cut_joined.result.0.now c.cut_joined.result.1.now)
    (IsJoinedOutput c.args.joined.now) _ _ c.replay_text.result
    (λ o is. cut c.cut_joined.result.0.now c.cut_joined.result.1.now c.if-joined-gt-MAX_TEXT.false c.cut_joined.ensures
    is) c.replay_text.ensures.leaves
