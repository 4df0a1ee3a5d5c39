use Rattle.script_replay.specs.Output.{IsJoinedOutput}
use Rattle.script_replay.proofs.Runs.{leaves_unread}
use Rattle.script_replay.proofs.Reading.{some_read, text_given}
use Rattle.script_replay.proofs.replays.replay_joined.Goals as goal

pub returns-in-Err-clause-leaves : goal.returns-in-Err-clause-leaves
returns-in-Err-clause-leaves g c =
    let read = some_read (g.R.Read.remaining c.args.joined.now) in (
      read.0,
      read.1,
      leaves_unread (IsJoinedOutput read.0) (g.W.Write.contents c.args.out.now) c.in-Err.stop
          c.in-Err.ensures.err,
    )

pub returns-in-Ok-clause-taken : goal.returns-in-Ok-clause-taken
returns-in-Ok-clause-taken g c =
    text_given c.replay_whole.result _ _ c.in-Ok.text.items c.in-Ok.ensures.taken c.in-Ok.ensures.most
