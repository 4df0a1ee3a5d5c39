use Rattle.std.proofs.Common.{arith, codes, sym, subst, ℕ}
use Rattle.std.specs.Str.Parse.{ExplainsUnsignedError, HasUnsignedDigitsIfOk, ParsesUnsigned}
use Rattle.clap.specs.Words.{first_of, found_of, rows_of}
use Rattle.command_words.specs.Words.{IsNumberOr}
use Rattle.command_words.proofs.Jobs.{number_found, number_is, number_or}
use Rattle.command_words.proofs.words.drive_words_of.Goals as goal

pub unwrap-requires : goal.unwrap-requires
unwrap-requires c =
    number_found _
    (λ bs r. ParsesUnsigned 32 10 bs r × ExplainsUnsignedError 10 bs r × HasUnsignedDigitsIfOk bs r) (λ t x g. g.0)
    (codes "steps") 1 1000000 (omega arith) (found_of c.args.values.now) c.get_one.result c.get_one.ensures.value
    c.requires.1

pub unwrap-requires-2 : goal.unwrap-requires-2
unwrap-requires-2 c =
    number_found _
    (λ bs r. ParsesUnsigned 32 10 bs r × ExplainsUnsignedError 10 bs r × HasUnsignedDigitsIfOk bs r) (λ t x g. g.0)
    (codes "seed") 0 4294967295 (omega arith) (found_of c.args.values.now) c.get_one-2.result c.get_one-2.ensures.value
    c.requires.2

pub returns-clause-steps : goal.returns-clause-steps
returns-clause-steps c =
    number_is _
    (λ bs r. ParsesUnsigned 32 10 bs r × ExplainsUnsignedError 10 bs r × HasUnsignedDigitsIfOk bs r) (λ t x g. g.0)
    (codes "steps") 1 1000000 (omega arith) (found_of c.args.values.now) c.get_one.result c.get_one.ensures.value
    c.unwrap.result c.unwrap.ensures c.requires.1

pub returns-clause-seed : goal.returns-clause-seed
returns-clause-seed c =
    number_is _
    (λ bs r. ParsesUnsigned 32 10 bs r × ExplainsUnsignedError 10 bs r × HasUnsignedDigitsIfOk bs r) (λ t x g. g.0)
    (codes "seed") 0 4294967295 (omega arith) (found_of c.args.values.now) c.get_one-2.result c.get_one-2.ensures.value
    c.unwrap-2.result c.unwrap-2.ensures c.requires.2

pub returns-clause-faults : goal.returns-clause-faults
returns-clause-faults c =
    subst (λ (n : ℕ). IsNumberOr 0 0 1000 (first_of (codes "faults") (rows_of (found_of c.args.values.now))) n)
    (sym c.unwrap_or.ensures)
    (number_or _
    (λ bs r. ParsesUnsigned 32 10 bs r × ExplainsUnsignedError 10 bs r × HasUnsignedDigitsIfOk bs r) (λ t x g. g.0)
    (codes "faults") 0 1000 (omega arith) (found_of c.args.values.now) c.get_one-3.result c.get_one-3.ensures.value 0
    c.get_one-3.ensures.none c.requires.3)
