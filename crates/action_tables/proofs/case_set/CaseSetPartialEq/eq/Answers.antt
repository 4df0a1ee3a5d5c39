use Rattle.std.proofs.Common.{arith}
use Rattle.action_tables.specs.LawsOfNumbers.{bits_of-numbers_of}
use Rattle.action_tables.proofs.case_set.CaseSetPartialEq.eq.Goals as goal

pub returns : goal.returns
returns c = grind (arith, bits_of-numbers_of)
