use Rattle.script_replay.proofs.OneOutput.{one_joined_output as one}
use Rattle.script_replay.proofs.laws.one_joined_output.Goals as goal

pub returns : goal.returns
returns c = one
