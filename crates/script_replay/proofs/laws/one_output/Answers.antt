use Rattle.script_replay.proofs.OneOutput.{one_output as one}
use Rattle.script_replay.proofs.laws.one_output.Goals as goal

pub returns : goal.returns
returns c = one
