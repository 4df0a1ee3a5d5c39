use Rattle.std.proofs.Common.{arith, codes, sym, subst, ◌∙◌, ℕ}
use Rattle.std.specs.Str.Parse.{ExplainsUnsignedError, HasUnsignedDigitsIfOk, ParsesUnsigned}
use Rattle.clap.specs.Words.{first_of, found_of, rows_of}
use Rattle.clap.proofs.WalkLemmas.{first_value-rows}
use Rattle.command_words.specs.Words.{IsNumberOr}
use Rattle.command_words.proofs.Jobs.{number_few, number_or, number_or_none}
use Rattle.command_words.proofs.words.thread_words_of.Goals as goal

pub returns-clause-turns : goal.returns-clause-turns
returns-clause-turns c =
    number_or_none _
    (λ bs r. ParsesUnsigned 32 10 bs r × ExplainsUnsignedError 10 bs r × HasUnsignedDigitsIfOk bs r) (λ t x g. g.0)
    (codes "turns") 1 100000 (omega arith) (found_of c.args.values.now) c.get_one.result c.get_one.ensures.value
    c.get_one.ensures.none c.requires.1

pub returns-clause-select : goal.returns-clause-select
returns-clause-select c =
    number_or_none _
    (λ bs r. ParsesUnsigned 32 10 bs r × ExplainsUnsignedError 10 bs r × HasUnsignedDigitsIfOk bs r) (λ t x g. g.0)
    (codes "select") 1 65535 (omega arith) (found_of c.args.values.now) c.get_one-2.result c.get_one-2.ensures.value
    c.get_one-2.ensures.none c.requires.2

pub returns-clause-resets : goal.returns-clause-resets
returns-clause-resets c =
    subst (λ (n : ℕ). IsNumberOr 1 1 100000 (first_of (codes "resets") (rows_of (found_of c.args.values.now))) n)
    (sym c.unwrap_or.ensures)
    (number_or _
    (λ bs r. ParsesUnsigned 32 10 bs r × ExplainsUnsignedError 10 bs r × HasUnsignedDigitsIfOk bs r) (λ t x g. g.0)
    (codes "resets") 1 100000 (omega arith) (found_of c.args.values.now) c.get_one-3.result c.get_one-3.ensures.value 1
    c.get_one-3.ensures.none c.requires.3)

pub invariant_of-result : goal.invariant_of-result
invariant_of-result c =
    record {
      few = number_few 1 100000 _ c.get_one.result
          (number_or_none _
          (λ bs r. ParsesUnsigned 32 10 bs r × ExplainsUnsignedError 10 bs r × HasUnsignedDigitsIfOk bs r) (λ t x g. g.0)
          (codes "turns") 1 100000 (omega arith) (found_of c.args.values.now) c.get_one.result
          c.get_one.ensures.value c.get_one.ensures.none c.requires.1);
    }

pub returns-clause-until : goal.returns-clause-until
returns-clause-until c = sym (first_value-rows (found_of c.args.values.now) (codes "until")) ∙ sym c.get_str.ensures
