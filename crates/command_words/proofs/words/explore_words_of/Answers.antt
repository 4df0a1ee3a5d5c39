use Rattle.std.proofs.Common.{arith, codes, ap, sym, subst, ℕ, ◌∙◌}
use Rattle.std.specs.Prelude.{option_map}
use Rattle.std.specs.Str.Parse.{ExplainsUnsignedError, HasUnsignedDigitsIfOk, ParsesUnsigned}
use Rattle.clap.specs.Words.{first_of, found_of, rows_of}
use Rattle.clap.proofs.WalkLemmas.{first_value-rows}
use Rattle.command_words.specs.Words.{IsNumberOr}
use Rattle.command_words.proofs.Jobs.{flag_is, number_or, some_text}
use Rattle.command_words.proofs.words.explore_words_of.Goals as goal

pub unwrap-topology-requires : goal.unwrap-topology-requires
unwrap-topology-requires c =
    some_text c.get_str.result _ (c.get_str.ensures ∙ first_value-rows (found_of c.args.values.now) (codes "TOPOLOGY"))
    c.requires.0

pub returns-clause-topology : goal.returns-clause-topology
returns-clause-topology c =
    sym (first_value-rows (found_of c.args.values.now) (codes "TOPOLOGY")) ∙ sym c.get_str.ensures
    ∙ ap (option_map (λ s. s.now)) c.unwrap-topology.ensures

pub returns-clause-script : goal.returns-clause-script
returns-clause-script c =
    sym (first_value-rows (found_of c.args.values.now) (codes "SCRIPT")) ∙ sym c.get_str-script.ensures

pub returns-clause-from : goal.returns-clause-from
returns-clause-from c =
    sym (first_value-rows (found_of c.args.values.now) (codes "from")) ∙ sym c.get_str-from.ensures

pub returns-clause-acts : goal.returns-clause-acts
returns-clause-acts c =
    flag_is (codes "acts") (found_of c.args.values.now) c.get_flag-acts.result c.get_flag-acts.ensures.none
    c.get_flag-acts.ensures.value c.get_flag-acts.ensures.other c.requires.1

pub returns-clause-most : goal.returns-clause-most
returns-clause-most c =
    subst (λ (n : ℕ). IsNumberOr 1000000 1 100000000 (first_of (codes "most") (rows_of (found_of c.args.values.now))) n)
    (sym c.unwrap_or-most.ensures)
    (number_or _
    (λ bs r. ParsesUnsigned 32 10 bs r × ExplainsUnsignedError 10 bs r × HasUnsignedDigitsIfOk bs r) (λ t x g. g.0)
    (codes "most") 1 100000000 (omega arith) (found_of c.args.values.now) c.get_one.result c.get_one.ensures.value 1000000
    c.get_one.ensures.none c.requires.2)

pub returns-clause-until : goal.returns-clause-until
returns-clause-until c =
    sym (first_value-rows (found_of c.args.values.now) (codes "until")) ∙ sym c.get_str-until.ensures

pub returns-clause-history : goal.returns-clause-history
returns-clause-history c =
    sym (first_value-rows (found_of c.args.values.now) (codes "history")) ∙ sym c.get_str-history.ensures
