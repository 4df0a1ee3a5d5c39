use Rattle.std.proofs.Common.{◌≡◌, ◌∙◌, ap, rules, Some}
use Rattle.clap.specs.Words.{Rule, rule_of}
use Rattle.clap.specs.declared.builder.arg.Arg.{Arg}
use Rattle.clap.specs.declared.builder.value_parser.ValueParser.TheVariants.{Unsigned}
use Rattle.command_words.specs.Words.{IsWord}
use Rattle.command_words.proofs.commands.number_word.Goals as goal

pub returns : goal.returns
unfolding IsWord
returns c = λ rule reads.
    let parser : c.value_parser.result.value_parser ≡ Some (Unsigned c.args.least c.args.most) = search rules in (
      ap rule_of c.value_parser.ensures.others
          ∙ ap (λ p. record (rule_of c.args.word) { parser = p }) parser
          ∙ ap (λ (r : Rule). record r { parser = Some (Unsigned c.args.least c.args.most) }) reads.0,
      ap (λ (a : Arg). a.global) c.value_parser.ensures.others ∙ reads.1,
    )
