use Rattle.std.proofs.Common.{arith, codes}
use Rattle.std.specs.Str.Parse.{ExplainsUnsignedError, HasUnsignedDigitsIfOk, ParsesUnsigned}
use Rattle.clap.specs.Words.{found_of}
use Rattle.command_words.proofs.Jobs.{flag_is, number_or_none}
use Rattle.command_words.proofs.words.verify_words_of.Goals as goal

pub returns-clause-why : goal.returns-clause-why
returns-clause-why c =
    flag_is (codes "why") (found_of c.args.values.now) c.get_flag-why.result c.get_flag-why.ensures.none
    c.get_flag-why.ensures.value c.get_flag-why.ensures.other c.requires.1

pub returns-clause-at : goal.returns-clause-at
returns-clause-at c =
    number_or_none _
    (λ bs r. ParsesUnsigned 32 10 bs r × ExplainsUnsignedError 10 bs r × HasUnsignedDigitsIfOk bs r) (λ t x g. g.0)
    (codes "at") 0 1000000 (omega arith) (found_of c.args.values.now) c.get_one-at.result c.get_one-at.ensures.value
    c.get_one-at.ensures.none c.requires.2
