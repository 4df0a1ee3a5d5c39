use Rattle.std.proofs.Common.{codes, ap, not, sym, ◌∙◌}
use Rattle.std.specs.Prelude.{option_map}
use Rattle.clap.specs.Words.{found_of}
use Rattle.clap.proofs.WalkLemmas.{first_value-rows}
use Rattle.command_words.proofs.Jobs.{flag_is, some_text}
use Rattle.command_words.proofs.words.session_words_of.Goals as goal

pub unwrap-topology-requires : goal.unwrap-topology-requires
unwrap-topology-requires c =
    some_text c.get_str.result _ (c.get_str.ensures ∙ first_value-rows (found_of c.args.values.now) (codes "TOPOLOGY"))
    c.requires.0

pub returns-clause-topology : goal.returns-clause-topology
returns-clause-topology c =
    sym (first_value-rows (found_of c.args.values.now) (codes "TOPOLOGY")) ∙ sym c.get_str.ensures
    ∙ ap (option_map (λ s. s.now)) c.unwrap-topology.ensures

pub returns-clause-from : goal.returns-clause-from
returns-clause-from c =
    sym (first_value-rows (found_of c.args.values.now) (codes "from")) ∙ sym c.get_str-from.ensures

pub returns-clause-history : goal.returns-clause-history
returns-clause-history c =
    sym (first_value-rows (found_of c.args.values.now) (codes "history")) ∙ sym c.get_str-history.ensures

pub returns-clause-sync : goal.returns-clause-sync
returns-clause-sync c =
    ap not
    (flag_is (codes "no-sync") (found_of c.args.values.now) c.get_flag-sync.result c.get_flag-sync.ensures.none
    c.get_flag-sync.ensures.value c.get_flag-sync.ensures.other c.requires.1)
