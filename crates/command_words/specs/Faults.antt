-- What is wrong with the words of the command line, by clap's own definition and by what clap's rules can't say.
use Rattle.std.specs.Prelude.{◌≡◌, ◌≢◌, ◌&&◌, ⊤, Bool, not, false, List, [], ◌∷◌, codes, Option, Some, None, is_some}
use Rattle.std.specs.Prelude.{if◌then◌else◌}
use Rattle.std.specs.Str.{bytes_eq}
use Rattle.clap.specs.Words.{IsAmong, Kinds, Row, Text, fault_of, first_of, kind_of, subcommand_of}
use Rattle.clap.specs.Kinds.{or_else}
use Rattle.clap.specs.declared.error.Error.{Error}
use Rattle.clap.specs.declared.error.ErrorKind.TheVariants.{MissingRequiredArgument, OutOfMemory}
use Rattle.command_words.specs.Words.{Found, is_on, program}
use Rattle.command_words.specs.declared.words.Job.{Job}
use Rattle.command_words.specs.declared.words.Job.TheVariants.{Session}
use Rattle.command_words.specs.declared.words.LineFault.{LineFault}
use Rattle.command_words.specs.declared.words.LineFault.TheVariants.{BadWords, NoMemory}

-- a session is told not to sync its history, and is given none
abbrev pub has_nothing_to_sync : List Row → Bool
has_nothing_to_sync rows = is_on (first_of (codes "no-sync") rows) && not (is_some (first_of (codes "history") rows))

abbrev pub lacks_history : Found → Bool
lacks_history None = false
lacks_history (Some s) = bytes_eq s.0 (codes "session") && has_nothing_to_sync s.1

-- the kinds that the error at the words may have, a request for help included: those of clap, and where it takes the words
-- that of a history which is missing. None where they are taken
abbrev pub faults_of : List Text → Kinds
faults_of words = or_else (fault_of program words)
    (if lacks_history (subcommand_of program words) then MissingRequiredArgument ∷ [] else [])

-- the fault is one that there is at the words, or an allocation failed
abbrev pub IsFaultOf : List Text → LineFault → Type 0
IsFaultOf words (BadWords error) = IsAmong (kind_of error) (faults_of words)
IsFaultOf words NoMemory = ⊤

-- ---- what private clauses cite

-- the job is a session that is told not to sync its history, and has none
abbrev pub is_without_history : Job → Bool
is_without_history (Session words) = not words.sync && not (is_some words.history)
is_without_history _ = false

-- clap's error as a fault
abbrev pub StandsFor : Error → LineFault → Type 0
StandsFor error (BadWords kept) = (kept ≡ error) × (kind_of error ≢ OutOfMemory)
StandsFor error NoMemory = kind_of error ≡ OutOfMemory

-- what a fault is told as; of words that are a mistake clap has the text
abbrev pub line_fault_text : LineFault → Option Text
line_fault_text (BadWords error) = None
line_fault_text NoMemory = Some (codes "out of memory")
