use Rattle.std.proofs.Common.{arith}
use Rattle.history.proofs.ShortLines.{tree_has}
use Rattle.history.proofs.line.lemma_tree_has_line.Goals as goal

pub returns : goal.returns
returns c =
    let ids = c.lemma_are_numbers.ensures in
    tree_has c.args.at c.args.regs (omega arith, ids.first, ids.second, c.lemma_is_number.ensures)
