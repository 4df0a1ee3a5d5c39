use Rattle.std.proofs.Common.{◌≢◌, [], rules}
use Rattle.fault_inject.proofs.FaultLines.{one_word}
use Rattle.fault_inject.proofs.text.is_one_word.Goals as goal

pub returns-then-not-is_empty : goal.returns-then-not-is_empty
returns-then-not-is_empty c =
    let some : c.args.text.now ≢ [] = search rules in
    one_word c.args.text.now c.cut.result c.is_none.result some c.cut.ensures.found c.cut.ensures.none c.is_none.ensures
