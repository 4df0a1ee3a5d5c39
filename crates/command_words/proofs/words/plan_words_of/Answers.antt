use Rattle.std.proofs.Common.{codes, ap, sym, ◌∙◌}
use Rattle.std.specs.Prelude.{option_map}
use Rattle.clap.specs.Words.{found_of}
use Rattle.clap.proofs.WalkLemmas.{first_value-rows}
use Rattle.command_words.proofs.Jobs.{some_text}
use Rattle.command_words.proofs.words.plan_words_of.Goals as goal

pub unwrap-topology-requires : goal.unwrap-topology-requires
unwrap-topology-requires c =
    some_text c.get_str.result _ (c.get_str.ensures ∙ first_value-rows (found_of c.args.values.now) (codes "TOPOLOGY"))
    c.requires

pub returns-clause-topology : goal.returns-clause-topology
returns-clause-topology c =
    sym (first_value-rows (found_of c.args.values.now) (codes "TOPOLOGY")) ∙ sym c.get_str.ensures
    ∙ ap (option_map (λ s. s.now)) c.unwrap-topology.ensures

pub returns-clause-script : goal.returns-clause-script
returns-clause-script c =
    sym (first_value-rows (found_of c.args.values.now) (codes "SCRIPT")) ∙ sym c.get_str-script.ensures

pub returns-clause-from : goal.returns-clause-from
returns-clause-from c =
    sym (first_value-rows (found_of c.args.values.now) (codes "from")) ∙ sym c.get_str-from.ensures
