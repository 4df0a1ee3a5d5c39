use Rattle.std.proofs.Common.{codes}
use Rattle.clap.specs.Words.{found_of}
use Rattle.command_words.proofs.Jobs.{flag_is}
use Rattle.command_words.proofs.words.check_words_of.Goals as goal

pub returns-clause-repair : goal.returns-clause-repair
returns-clause-repair c =
    flag_is (codes "repair") (found_of c.args.values.now) c.get_flag-repair.result c.get_flag-repair.ensures.none
    c.get_flag-repair.ensures.value c.get_flag-repair.ensures.other c.requires.1

pub returns-clause-whole : goal.returns-clause-whole
returns-clause-whole c =
    flag_is (codes "whole") (found_of c.args.values.now) c.get_flag-whole.result c.get_flag-whole.ensures.none
    c.get_flag-whole.ensures.value c.get_flag-whole.ensures.other c.requires.2
