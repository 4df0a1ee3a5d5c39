use Rattle.script_replay.proofs.LeftRecords.{one_recorded}
use Rattle.script_replay.proofs.laws.one_record.Goals as goal

pub returns : goal.returns
returns c = one_recorded
