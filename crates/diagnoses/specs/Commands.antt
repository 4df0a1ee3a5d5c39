-- The names of commands.
use Rattle.std.specs.Prelude.{◌≡◌, ℕ, ◌≤◌, List, ◌∷◌, ◌++◌, Contains}
use Rattle.script_replay.specs.Lines.{lines_of}
use Rattle.diagnoses.specs.Nearest.{edits}
use Rattle.explanations.specs.declared.help.TheConstants.{COMMANDS_HELP}

-- a line begins with this name and a space
abbrev pub BeginsWithName : List ℕ → List ℕ → Type 0
BeginsWithName line name = (rest : List ℕ) × (line ≡ name ++ 32 ∷ rest)

-- the lines of the help
unfoldable pub help_lines : List (List ℕ)
help_lines = lines_of COMMANDS_HELP.now

-- a line of the help begins with this name
abbrev pub IsCommandName : List ℕ → Type 0
IsCommandName name = (line : List ℕ) × Contains help_lines line × BeginsWithName line name

-- the name of a command that is at most two edits away from the word
pub record IsMeantCommand (word name : List ℕ) : Type 0 where
  pub command : IsCommandName name
  pub near : edits word name ≤ 2
