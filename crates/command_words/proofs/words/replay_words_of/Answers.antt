use Rattle.std.proofs.Common.{codes}
use Rattle.clap.specs.Words.{found_of}
use Rattle.command_words.proofs.Jobs.{flag_is}
use Rattle.command_words.proofs.words.replay_words_of.Goals as goal

pub returns-clause-number : goal.returns-clause-number
returns-clause-number c =
    flag_is (codes "number") (found_of c.args.values.now) c.get_flag-number.result c.get_flag-number.ensures.none
    c.get_flag-number.ensures.value c.get_flag-number.ensures.other c.requires.1

pub returns-clause-strict : goal.returns-clause-strict
returns-clause-strict c =
    flag_is (codes "strict") (found_of c.args.values.now) c.get_flag-strict.result c.get_flag-strict.ensures.none
    c.get_flag-strict.ensures.value c.get_flag-strict.ensures.other c.requires.2
