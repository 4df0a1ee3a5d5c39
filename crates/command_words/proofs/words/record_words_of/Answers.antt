use Rattle.std.proofs.Common.{codes, ap, sym, ◌∙◌}
use Rattle.std.specs.Prelude.{option_map}
use Rattle.clap.specs.Words.{found_of}
use Rattle.clap.proofs.WalkLemmas.{first_value-rows}
use Rattle.command_words.proofs.Jobs.{some_text}
use Rattle.command_words.proofs.words.record_words_of.Goals as goal

pub unwrap-requires : goal.unwrap-requires
unwrap-requires c =
    some_text c.get_str.result _ (c.get_str.ensures ∙ first_value-rows (found_of c.args.values.now) (codes "history"))
    c.requires.1

pub returns-clause-history : goal.returns-clause-history
returns-clause-history c =
    sym (first_value-rows (found_of c.args.values.now) (codes "history")) ∙ sym c.get_str.ensures
    ∙ ap (option_map (λ s. s.now)) c.unwrap.ensures
