use Rattle.std.proofs.Common.{codes, ap, sym, ◌∙◌}
use Rattle.std.specs.Prelude.{option_map}
use Rattle.clap.specs.Words.{found_of}
use Rattle.clap.proofs.WalkLemmas.{first_value-rows}
use Rattle.command_words.proofs.Jobs.{some_text}
use Rattle.command_words.proofs.words.paths_of.Goals as goal

pub unwrap-requires : goal.unwrap-requires
unwrap-requires c =
    some_text c.get_str.result _ (c.get_str.ensures ∙ first_value-rows (found_of c.args.values.now) (codes "TOPOLOGY"))
    c.requires.0

pub unwrap-requires-2 : goal.unwrap-requires-2
unwrap-requires-2 c =
    some_text c.get_str-2.result _
    (c.get_str-2.ensures ∙ first_value-rows (found_of c.args.values.now) c.args.input.now) c.requires.1

pub returns-clause-topology : goal.returns-clause-topology
returns-clause-topology c =
    sym (first_value-rows (found_of c.args.values.now) (codes "TOPOLOGY")) ∙ sym c.get_str.ensures
    ∙ ap (option_map (λ s. s.now)) c.unwrap.ensures

pub returns-clause-input : goal.returns-clause-input
returns-clause-input c =
    sym (first_value-rows (found_of c.args.values.now) c.args.input.now) ∙ sym c.get_str-2.ensures
    ∙ ap (option_map (λ s. s.now)) c.unwrap-2.ensures

pub returns-clause-from : goal.returns-clause-from
returns-clause-from c = sym (first_value-rows (found_of c.args.values.now) (codes "from")) ∙ sym c.get_str-3.ensures
