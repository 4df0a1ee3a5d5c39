use Rattle.std.proofs.Common.{◌∙◌, arith, codes, sym, ap, subst, ℕ}
use Rattle.std.specs.Prelude.{option_map}
use Rattle.std.specs.Str.Parse.{ExplainsUnsignedError, HasUnsignedDigitsIfOk, ParsesUnsigned}
use Rattle.clap.specs.Words.{first_of, found_of, rows_of}
use Rattle.clap.proofs.WalkLemmas.{first_value-rows}
use Rattle.command_words.specs.Words.{IsNumberOr}
use Rattle.command_words.proofs.Jobs.{number_found, number_is, number_or, some_text}
use Rattle.command_words.proofs.words.shape_words_of.Goals as goal

pub unwrap-requires : goal.unwrap-requires
unwrap-requires c =
    some_text c.get_str.result _ (c.get_str.ensures ∙ first_value-rows (found_of c.args.values.now) (codes "SHAPE"))
    c.requires.0

pub unwrap-requires-2 : goal.unwrap-requires-2
unwrap-requires-2 c =
    number_found _
    (λ bs r. ParsesUnsigned 32 10 bs r × ExplainsUnsignedError 10 bs r × HasUnsignedDigitsIfOk bs r) (λ t x g. g.0)
    (codes "N") 1 1024 (omega arith) (found_of c.args.values.now) c.get_one.result c.get_one.ensures.value
    c.requires.1

pub returns-clause-shape : goal.returns-clause-shape
returns-clause-shape c =
    sym (first_value-rows (found_of c.args.values.now) (codes "SHAPE")) ∙ sym c.get_str.ensures
    ∙ ap (option_map (λ s. s.now)) c.unwrap.ensures

pub returns-clause-nodes : goal.returns-clause-nodes
returns-clause-nodes c =
    number_is _
    (λ bs r. ParsesUnsigned 32 10 bs r × ExplainsUnsignedError 10 bs r × HasUnsignedDigitsIfOk bs r) (λ t x g. g.0)
    (codes "N") 1 1024 (omega arith) (found_of c.args.values.now) c.get_one.result c.get_one.ensures.value
    c.unwrap-2.result c.unwrap-2.ensures c.requires.1

pub returns-clause-seed : goal.returns-clause-seed
returns-clause-seed c =
    subst (λ (n : ℕ). IsNumberOr 0 0 4294967295 (first_of (codes "seed") (rows_of (found_of c.args.values.now))) n)
    (sym c.unwrap_or.ensures)
    (number_or _
    (λ bs r. ParsesUnsigned 32 10 bs r × ExplainsUnsignedError 10 bs r × HasUnsignedDigitsIfOk bs r) (λ t x g. g.0)
    (codes "seed") 0 4294967295 (omega arith) (found_of c.args.values.now) c.get_one-2.result
    c.get_one-2.ensures.value 0 c.get_one-2.ensures.none c.requires.2)

pub returns-clause-app : goal.returns-clause-app
returns-clause-app c =
    sym (first_value-rows (found_of c.args.values.now) (codes "app")) ∙ sym c.get_str-2.ensures

pub invariant_of-result : goal.invariant_of-result
invariant_of-result c =
    let within =
    number_is _
    (λ bs r. ParsesUnsigned 32 10 bs r × ExplainsUnsignedError 10 bs r × HasUnsignedDigitsIfOk bs r) (λ t x g. g.0)
    (codes "N") 1 1024 (omega arith) (found_of c.args.values.now) c.get_one.result c.get_one.ensures.value
    c.unwrap-2.result c.unwrap-2.ensures c.requires.1 in
    record { some = within.1; few = within.2 }
