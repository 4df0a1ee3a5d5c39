use Rattle.script_replay.proofs.LeftRecords.{recordings_replay}
use Rattle.script_replay.proofs.laws.recordings_are_replays.Goals as goal

pub returns : goal.returns
returns c = recordings_replay
