use Rattle.std.proofs.Common.{codes, sym, ◌∙◌}
use Rattle.clap.specs.Words.{found_of}
use Rattle.clap.proofs.WalkLemmas.{first_value-rows}
use Rattle.command_words.proofs.words.picture_words_of.Goals as goal

pub returns-clause-rows : goal.returns-clause-rows
returns-clause-rows c = sym (first_value-rows (found_of c.args.values.now) (codes "rows")) ∙ sym c.get_str-rows.ensures

pub returns-clause-nodes : goal.returns-clause-nodes
returns-clause-nodes c =
    sym (first_value-rows (found_of c.args.values.now) (codes "nodes")) ∙ sym c.get_str-nodes.ensures
