-- The help that a line of a session asks for.
use Rattle.std.specs.Prelude.{ℕ, nat_lt, if◌then◌else◌, List, codes, drop, length, take, Option, Some, None, option_map}
use Rattle.std.specs.Prelude.{unwrap_or}
use Rattle.std.specs.Option.{option_or}
use Rattle.std.specs.Str.{bytes_eq}
use Rattle.explanations.specs.Explained.{explained}
use Rattle.explanations.specs.declared.explained.TheConstants.{NO_SUCH_WORD}
use Rattle.explanations.specs.declared.help.TheConstants.{COMMANDS_HELP}
use Rattle.explanations.specs.declared.topics.TheConstants.{TOPICS}

-- what a word means, or that it isn't known
abbrev pub explanation_text : List ℕ → List ℕ
explanation_text word = unwrap_or (explained word) NO_SUCH_WORD.now

-- the word of which a line asks what it means: a line of over 256 bytes is bad for its length
abbrev pub asked_word : List ℕ → Option (List ℕ)
asked_word line =
    if nat_lt 256 (length line) then None
    else if bytes_eq (take 8 line) (codes "explain ") then Some (drop 8 line) else None

-- the help of a line that names no word: the commands, or the words that are known
abbrev pub general_help : List ℕ → Option (List ℕ)
general_help line =
    if bytes_eq line (codes "help") then Some COMMANDS_HELP.now
    else if bytes_eq line (codes "explain") then Some TOPICS.now else None

-- what a word means, if the line asks for that
abbrev pub word_help : List ℕ → Option (List ℕ)
word_help line = option_map explanation_text (asked_word line)

-- the help that a line asks for, if it asks for some
unfoldable pub helped : List ℕ → Option (List ℕ)
helped line = option_or (general_help line) (word_help line)
