-- What a word is explained by.
use Rattle.std.specs.Prelude.{ℕ, List, Option, Some, None}
use Rattle.explanations.specs.declared.explained.TheConstants.{NO_SUCH_WORD}
use Rattle.script_replay.specs.declared.status.Status.{Status}
use Rattle.script_replay.specs.declared.status.Status.TheVariants.{Good, BadInput}

-- the text and the status of an explanation, if there is one
abbrev pub explanation_output : Option (List ℕ) → List ℕ × Status
explanation_output (Some text) = (text, Good)
explanation_output None = (NO_SUCH_WORD.now, BadInput)
