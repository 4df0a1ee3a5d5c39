use Rattle.std.proofs.Common.{codes, sym, ◌∙◌}
use Rattle.clap.specs.Words.{found_of}
use Rattle.clap.proofs.WalkLemmas.{first_value-rows}
use Rattle.command_words.proofs.words.page_words_of.Goals as goal

pub returns-clause-title : goal.returns-clause-title
returns-clause-title c =
    sym (first_value-rows (found_of c.args.values.now) (codes "title")) ∙ sym c.get_str-title.ensures
