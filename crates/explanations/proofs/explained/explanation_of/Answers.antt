use Rattle.std.proofs.Common.{map, ◌++◌}
use Rattle.explanations.specs.Explained.{explained}
use Rattle.explanations.specs.declared.answers.TheConstants.{ANSWERS}
use Rattle.explanations.specs.declared.applications.TheConstants.{APPLICATIONS}
use Rattle.explanations.specs.declared.refusals.TheConstants.{REFUSALS}
use Rattle.explanations.specs.declared.rows.TheConstants.{ROWS}
use Rattle.explanations.specs.declared.words.TheConstants.{WORDS}
use Rattle.explanations.proofs.Found.{found_or}
use Rattle.explanations.proofs.explained.explanation_of.Goals as goal

pub returns : goal.returns
unfolding explained
returns c =
    let word = c.args.word.now in
    let refusals = map (λ e. (e.0.now, e.1.now)) REFUSALS in
    let answers = map (λ e. (e.0.now, e.1.now)) ANSWERS in
    let words = map (λ e. (e.0.now, e.1.now)) WORDS in
    let applications = map (λ e. (e.0.now, e.1.now)) APPLICATIONS in
    let two =
    found_or (λ text. text.now) _ c.refusal_text.result c.answer_text.result refusals answers word c.refusal_text.ensures
    c.answer_text.ensures c.or.ensures in
    let three =
    found_or (λ text. text.now) _ c.or.result c.word_text.result (refusals ++ answers) words word two
    c.word_text.ensures c.or-2.ensures in
    let four =
    found_or (λ text. text.now) _ c.or-2.result c.application_text.result ((refusals ++ answers) ++ words) applications
    word three c.application_text.ensures c.or-3.ensures in
    found_or (λ text. text.now) _ c.or-3.result c.row_text.result (((refusals ++ answers) ++ words) ++ applications)
    (map (λ e. (e.0.now, e.1.now)) ROWS) word four c.row_text.ensures c.or-4.ensures
