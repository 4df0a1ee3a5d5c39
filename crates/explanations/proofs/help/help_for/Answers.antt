use Rattle.std.proofs.Common.{ap, ap₂, option_map, sym, ◌∙◌}
use Rattle.std.specs.Option.{option_or}
use Rattle.explanations.proofs.Asked.{by_parts}
use Rattle.explanations.proofs.Found.{mapped}
use Rattle.explanations.proofs.help.help_for.Goals as goal

pub returns : goal.returns
returns c =
    ap (option_map (λ text. text.now)) c.or.ensures ∙ mapped (λ text. text.now) c.general_help.result c.word_help.result
    ∙ ap₂ option_or c.general_help.ensures c.word_help.ensures ∙ sym (by_parts c.args.line.now)
