use Rattle.std.proofs.Common.{arith}
use Rattle.history.proofs.ShortLines.{wave_has}
use Rattle.history.proofs.line.lemma_wave_has_line.Goals as goal

pub returns : goal.returns
returns c = wave_has c.args.at c.args.regs (omega arith, c.lemma_is_number.ensures)
