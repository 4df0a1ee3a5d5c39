use Rattle.reset_model.proofs.WordLines.{none_then, some_of_both, words_cut, words_of-word}
use Rattle.reset_model.proofs.text.split_word.Goals as goal

pub returns-clause-found : goal.returns-clause-found
returns-clause-found c =
    some_of_both c.cut.result c.cut.ensures.found c.cut.ensures.first
    (λ parts is none. words_cut c.args.line.now parts.0.now parts.1.now is none)

pub returns-clause-only : goal.returns-clause-only
returns-clause-only c = none_then c.cut.result c.cut.ensures.none (words_of-word c.args.line.now)
