-- What a word means.
use Rattle.std.specs.Prelude.{ℕ, List, ◌++◌, Option, find, map, option_map}
use Rattle.std.specs.Str.{bytes_eq}
use Rattle.explanations.specs.declared.answers.TheConstants.{ANSWERS}
use Rattle.explanations.specs.declared.applications.TheConstants.{APPLICATIONS}
use Rattle.explanations.specs.declared.refusals.TheConstants.{REFUSALS}
use Rattle.explanations.specs.declared.rows.TheConstants.{ROWS}
use Rattle.explanations.specs.declared.words.TheConstants.{WORDS}

-- the text of the first explanation of a word in a table of words, each with its text
abbrev pub text_in : List (List ℕ × List ℕ) → List ℕ → Option (List ℕ)
text_in table word = option_map (λ e. e.1) (find (λ e. bytes_eq e.0 word) table)

-- what the program knows of a word
unfoldable pub explained : List ℕ → Option (List ℕ)
explained word =
    text_in
    ((((map (λ e. (e.0.now, e.1.now)) REFUSALS ++ map (λ e. (e.0.now, e.1.now)) ANSWERS)
    ++ map (λ e. (e.0.now, e.1.now)) WORDS)
    ++ map (λ e. (e.0.now, e.1.now)) APPLICATIONS)
    ++ map (λ e. (e.0.now, e.1.now)) ROWS) word
