-- What the words of the command line ask for, by clap's own definition of what a command makes of words.
use Rattle.std.specs.Prelude.{◌≡◌, ◌≤◌, ◌⊎◌, ⊤, ℕ, Bool, not, true, false, List, codes, Option, Some, None, IsSome}
use Rattle.std.specs.Prelude.{IfSome, IsSomeAnd}
use Rattle.std.specs.Prelude.{option_and_then, option_map}
use Rattle.std.specs.Str.{bytes_eq}
use Rattle.std.specs.Str.Parse.{IsNumeral, digits_value, without_leading_plus}
use Rattle.clap.specs.Words.{App, Row, Rule, Text, app_of, first_of}
use Rattle.clap.specs.Words.{new_app, new_rule, one_of, rule_of, subcommand_of, with_rule, with_subcommand}
use Rattle.clap.specs.Simple.{on_top}
use Rattle.clap.specs.declared.builder.action.ArgAction.TheVariants.{SetTrue}
use Rattle.clap.specs.declared.builder.arg.Arg.{Arg}
use Rattle.clap.specs.declared.builder.command.Command.{Command}
use Rattle.clap.specs.declared.builder.command.Command.TheViews.{out-Command as fields_of}
use Rattle.clap.specs.declared.builder.value_parser.ValueParser.TheVariants.{Unsigned}
use Rattle.command_words.specs.declared.words.Job.{Job}
use Rattle.command_words.specs.declared.words.Job.TheVariants.{Joined, Replay, Check, Verify, Picture, Record, Threads}
use Rattle.command_words.specs.declared.words.Job.TheVariants.{Drive, Plan, Explore, Session, Page, Shape, Explain, Tables}
use Rattle.command_words.specs.declared.check_words.CheckWords.{CheckWords}
use Rattle.command_words.specs.declared.drive_words.DriveWords.{DriveWords}
use Rattle.command_words.specs.declared.explore_words.ExploreWords.{ExploreWords}
use Rattle.command_words.specs.declared.page_words.PageWords.{PageWords}
use Rattle.command_words.specs.declared.picture_words.PictureWords.{PictureWords}
use Rattle.command_words.specs.declared.plan_words.PlanWords.{PlanWords}
use Rattle.command_words.specs.declared.record_words.RecordWords.{RecordWords}
use Rattle.command_words.specs.declared.session_words.SessionWords.{SessionWords}
use Rattle.command_words.specs.declared.shape_words.ShapeWords.{ShapeWords}
use Rattle.command_words.specs.declared.thread_words.ThreadWords.{ThreadWords}
use Rattle.command_words.specs.declared.replay_words.ReplayWords.{ReplayWords}
use Rattle.command_words.specs.declared.verify_words.VerifyWords.{VerifyWords}

-- ---- the command line

-- a path that has to be given
abbrev pub path : Text → Rule
path name = record (new_rule name) { required = true }

-- the path of a file behind its name, which has to be given: `--NAME FILE`
abbrev pub file_option : Text → Rule
file_option name = record (new_rule name) { long = Some name; value_names = 1; required = true }

-- an argument whose value is a number from the least to the most
abbrev pub within : ℕ → ℕ → Rule → Rule
within least most rule = record rule { parser = Some (Unsigned least most) }

-- a number behind its name, which has to be given: `--NAME N`
abbrev pub number_option : Text → ℕ → ℕ → Rule
number_option name least most = within least most (file_option name)

-- an option that may be left out
abbrev pub optional : Rule → Rule
optional rule = record rule { required = false }

-- a flag, which may be left out: `--NAME`
abbrev pub flag : Text → Rule
flag name = record (new_rule name) { long = Some name; action = Some SetTrue }

-- the path of a snapshot, which may be left out: `--from SNAPSHOT`
abbrev pub from_option : Rule
from_option = optional (file_option (codes "from"))

-- a subcommand with two paths: `NAME TOPOLOGY INPUT [--from SNAPSHOT]`
unfoldable pub texts_command : Text → Text → App
texts_command name input =
    with_rule (with_rule (with_rule (new_app name) (path (codes "TOPOLOGY"))) (path input)) from_option

-- `replay TOPOLOGY SCRIPT [--from SNAPSHOT] [--number] [--strict]`
unfoldable pub replay_command : App
replay_command =
    with_rule (with_rule (texts_command (codes "replay") (codes "SCRIPT")) (flag (codes "number"))) (flag (codes "strict"))

-- `check TOPOLOGY SCRIPT [--from SNAPSHOT] [--repair] [--whole]`
unfoldable pub check_command : App
check_command =
    with_rule (with_rule (texts_command (codes "check") (codes "SCRIPT")) (flag (codes "repair"))) (flag (codes "whole"))

-- `plan TOPOLOGY [SCRIPT] [--from SNAPSHOT]`
unfoldable pub plan_command : App
plan_command =
    with_rule
    (with_rule (with_rule (new_app (codes "plan")) (path (codes "TOPOLOGY"))) (optional (path (codes "SCRIPT"))))
    from_option

-- `explore TOPOLOGY [SCRIPT] [--from SNAPSHOT] [--acts] [--most N] [--until WHAT] [--history FILE]`
unfoldable pub explore_command : App
explore_command =
    with_rule
    (with_rule
    (with_rule
    (with_rule
    (with_rule
    (with_rule (with_rule (new_app (codes "explore")) (path (codes "TOPOLOGY"))) (optional (path (codes "SCRIPT"))))
    from_option) (flag (codes "acts"))) (optional (number_option (codes "most") 1 100000000)))
    (optional (file_option (codes "until")))) (optional (file_option (codes "history")))

-- `session TOPOLOGY [--from SNAPSHOT] [--history FILE] [--no-sync]`
unfoldable pub session_command : App
session_command =
    with_rule
    (with_rule
    (with_rule (with_rule (new_app (codes "session")) (path (codes "TOPOLOGY"))) from_option)
    (optional (file_option (codes "history")))) (flag (codes "no-sync"))

-- `verify TOPOLOGY HISTORY [--from SNAPSHOT] [--why] [--at P]`
unfoldable pub verify_command : App
verify_command =
    with_rule (with_rule (texts_command (codes "verify") (codes "HISTORY")) (flag (codes "why")))
    (optional (number_option (codes "at") 0 1000000))

-- `picture TOPOLOGY HISTORY [--from SNAPSHOT] [--rows P..Q] [--nodes IDS]`
unfoldable pub picture_command : App
picture_command =
    with_rule
    (with_rule (texts_command (codes "picture") (codes "HISTORY")) (optional (file_option (codes "rows"))))
    (optional (file_option (codes "nodes")))

-- `page TOPOLOGY HISTORY [--from SNAPSHOT] [--title TEXT]`
unfoldable pub page_command : App
page_command =
    with_rule
    (with_rule
    (with_rule (with_rule (new_app (codes "page")) (path (codes "TOPOLOGY"))) (path (codes "HISTORY")))
    from_option) (optional (file_option (codes "title")))

-- `record TOPOLOGY SCRIPT --history FILE [--from SNAPSHOT]`
unfoldable pub record_command : App
record_command =
    with_rule
    (with_rule
    (with_rule (with_rule (new_app (codes "record")) (path (codes "TOPOLOGY"))) (path (codes "SCRIPT")))
    (file_option (codes "history"))) from_option

-- `threads TOPOLOGY [--turns N] [--until WHEN] [--select I] [--resets N] --history FILE [--from SNAPSHOT]`
unfoldable pub threads_command : App
threads_command =
    with_rule
    (with_rule
    (with_rule
    (with_rule
    (with_rule
    (with_rule (with_rule (new_app (codes "threads")) (path (codes "TOPOLOGY")))
    (optional (number_option (codes "turns") 1 100000))) (optional (file_option (codes "until"))))
    (optional (number_option (codes "select") 1 65535))) (optional (number_option (codes "resets") 1 100000)))
    (file_option (codes "history"))) from_option

-- `drive TOPOLOGY --steps N --seed S --history FILE [--faults P] [--from SNAPSHOT]`
unfoldable pub drive_command : App
drive_command =
    with_rule
    (with_rule
    (with_rule
    (with_rule
    (with_rule (with_rule (new_app (codes "drive")) (path (codes "TOPOLOGY")))
    (number_option (codes "steps") 1 1000000)) (number_option (codes "seed") 0 4294967295))
    (file_option (codes "history"))) (optional (number_option (codes "faults") 0 1000))) from_option

-- `topology SHAPE N [--seed S] [--app A]`
unfoldable pub topology_command : App
topology_command =
    with_rule
    (with_rule
    (with_rule (with_rule (new_app (codes "topology")) (path (codes "SHAPE"))) (within 1 1024 (path (codes "N"))))
    (optional (number_option (codes "seed") 0 4294967295))) (optional (file_option (codes "app")))

-- `explain [WORD]`
unfoldable pub explain_command : App
explain_command = with_rule (new_app (codes "explain")) (optional (path (codes "WORD")))

-- `tables`
unfoldable pub tables_command : App
tables_command = new_app (codes "tables")

-- the program before it has subcommands: it tells its version
abbrev pub new_program : App
new_program = on_top (λ s. record s { has_version = true }) (new_app (codes "reset-service"))

-- with the subcommands that read a script, or commands as they come
abbrev pub scripts_program : App
scripts_program =
    with_subcommand
    (with_subcommand
    (with_subcommand
    (with_subcommand (with_subcommand new_program replay_command.top) check_command.top) plan_command.top)
    explore_command.top) session_command.top

-- with those that read a history
abbrev pub texts_program : App
texts_program =
    with_subcommand
    (with_subcommand (with_subcommand scripts_program verify_command.top) picture_command.top) page_command.top

-- with those that write a history
abbrev pub histories_program : App
histories_program =
    with_subcommand
    (with_subcommand (with_subcommand texts_program record_command.top) threads_command.top) drive_command.top

-- the program with its fourteen subcommands
unfoldable pub program : App
program =
    with_subcommand
    (with_subcommand (with_subcommand histories_program topology_command.top) explain_command.top) tables_command.top

-- ---- what words ask for

-- the subcommand that clap finds, with what it found for the arguments
abbrev pub Found : Type 0
Found = Option (Text × List Row)

abbrev pub name_in : Found → Option Text
name_in = option_map (λ s. s.0)

abbrev pub value_in : Found → Text → Option Text
value_in found argument = option_and_then (λ s. first_of argument s.1) found

-- the text is the number in decimal digits; a plus may stand first
abbrev pub Writes : ℕ → Text → Type 0
Writes number text =
    IsNumeral 10 (without_leading_plus text) × (digits_value 10 (without_leading_plus text) ≡ number)

-- the text is that of the number, which is from the least to the most
abbrev pub IsNumberWithin : ℕ → ℕ → Option Text → ℕ → Type 0
IsNumberWithin least most text number = IsSomeAnd text (Writes number) × (least ≤ number) × (number ≤ most)

-- so it is, or there is no text, and it is this number
abbrev pub IsNumberOr : ℕ → ℕ → ℕ → Option Text → ℕ → Type 0
IsNumberOr other least most None number = number ≡ other
IsNumberOr other least most (Some text) number = IsNumberWithin least most (Some text) number

-- so it is, or there is neither a text nor a number
abbrev pub IsNumberOrNone : ℕ → ℕ → Option Text → Option ℕ → Type 0
IsNumberOrNone least most None number = number ≡ None
IsNumberOrNone least most (Some text) None = ⊥
IsNumberOrNone least most (Some text) (Some number) = IsNumberWithin least most (Some text) number

-- the value of a flag says that it is given
abbrev pub is_on : Option Text → Bool
is_on None = false
is_on (Some value) = bytes_eq value (codes "true")

-- it is the subcommand `replay` with these values
abbrev pub HasReplayWords : Found → ReplayWords → Type 0
HasReplayWords found words = (name_in found ≡ Some (codes "replay"))
    × (value_in found (codes "TOPOLOGY") ≡ Some words.topology.now)
    × (value_in found (codes "SCRIPT") ≡ Some words.script.now)
    × (value_in found (codes "from") ≡ option_map (λ from. from.now) words.from)
    × (words.number ≡ is_on (value_in found (codes "number")))
    × (words.strict ≡ is_on (value_in found (codes "strict")))

-- it is the subcommand `check` with these values
abbrev pub HasCheckWords : Found → CheckWords → Type 0
HasCheckWords found words = (name_in found ≡ Some (codes "check"))
    × (value_in found (codes "TOPOLOGY") ≡ Some words.topology.now)
    × (value_in found (codes "SCRIPT") ≡ Some words.script.now)
    × (value_in found (codes "from") ≡ option_map (λ from. from.now) words.from)
    × (words.repair ≡ is_on (value_in found (codes "repair")))
    × (words.whole ≡ is_on (value_in found (codes "whole")))

-- it is the subcommand `plan` with these values
abbrev pub HasPlanWords : Found → PlanWords → Type 0
HasPlanWords found words = (name_in found ≡ Some (codes "plan"))
    × (value_in found (codes "TOPOLOGY") ≡ Some words.topology.now)
    × (value_in found (codes "SCRIPT") ≡ option_map (λ script. script.now) words.script)
    × (value_in found (codes "from") ≡ option_map (λ from. from.now) words.from)

-- it is the subcommand `explore` with these values: at most 1,000,000 configurations are visited where no number is given
abbrev pub HasExploreWords : Found → ExploreWords → Type 0
HasExploreWords found words = (name_in found ≡ Some (codes "explore"))
    × (value_in found (codes "TOPOLOGY") ≡ Some words.topology.now)
    × (value_in found (codes "SCRIPT") ≡ option_map (λ script. script.now) words.script)
    × (value_in found (codes "from") ≡ option_map (λ from. from.now) words.from)
    × (words.acts ≡ is_on (value_in found (codes "acts")))
    × IsNumberOr 1000000 1 100000000 (value_in found (codes "most")) words.most
    × (value_in found (codes "until") ≡ option_map (λ until. until.now) words.until)
    × (value_in found (codes "history") ≡ option_map (λ history. history.now) words.history)

-- it is the subcommand `session` with these values, and the history is synced unless the words say that it isn't
abbrev pub HasSessionWords : Found → SessionWords → Type 0
HasSessionWords found words = (name_in found ≡ Some (codes "session"))
    × (value_in found (codes "TOPOLOGY") ≡ Some words.topology.now)
    × (value_in found (codes "from") ≡ option_map (λ from. from.now) words.from)
    × (value_in found (codes "history") ≡ option_map (λ history. history.now) words.history)
    × (words.sync ≡ not (is_on (value_in found (codes "no-sync"))))

-- it is the subcommand `verify` with these values
abbrev pub HasVerifyWords : Found → VerifyWords → Type 0
HasVerifyWords found words = (name_in found ≡ Some (codes "verify"))
    × (value_in found (codes "TOPOLOGY") ≡ Some words.topology.now)
    × (value_in found (codes "HISTORY") ≡ Some words.history.now)
    × (value_in found (codes "from") ≡ option_map (λ from. from.now) words.from)
    × (words.why ≡ is_on (value_in found (codes "why")))
    × IsNumberOrNone 0 1000000 (value_in found (codes "at")) words.at

-- it is the subcommand `picture` with these values
abbrev pub HasPictureWords : Found → PictureWords → Type 0
HasPictureWords found words = (name_in found ≡ Some (codes "picture"))
    × (value_in found (codes "TOPOLOGY") ≡ Some words.topology.now)
    × (value_in found (codes "HISTORY") ≡ Some words.history.now)
    × (value_in found (codes "from") ≡ option_map (λ from. from.now) words.from)
    × (value_in found (codes "rows") ≡ option_map (λ rows. rows.now) words.rows)
    × (value_in found (codes "nodes") ≡ option_map (λ nodes. nodes.now) words.nodes)

-- it is the subcommand `page` with these values
abbrev pub HasPageWords : Found → PageWords → Type 0
HasPageWords found words = (name_in found ≡ Some (codes "page"))
    × (value_in found (codes "TOPOLOGY") ≡ Some words.topology.now)
    × (value_in found (codes "HISTORY") ≡ Some words.history.now)
    × (value_in found (codes "from") ≡ option_map (λ from. from.now) words.from)
    × (value_in found (codes "title") ≡ option_map (λ title. title.now) words.title)

-- it is the subcommand `record` with these values
abbrev pub HasRecordWords : Found → RecordWords → Type 0
HasRecordWords found words = (name_in found ≡ Some (codes "record"))
    × (value_in found (codes "TOPOLOGY") ≡ Some words.topology.now)
    × (value_in found (codes "SCRIPT") ≡ Some words.script.now)
    × (value_in found (codes "history") ≡ Some words.history.now)
    × (value_in found (codes "from") ≡ option_map (λ from. from.now) words.from)

-- it is the subcommand `threads` with these values: the turns are from 1 to 100,000, and one reset is asked for where no
-- number is given
abbrev pub HasThreadWords : Found → ThreadWords → Type 0
HasThreadWords found words = (name_in found ≡ Some (codes "threads"))
    × (value_in found (codes "TOPOLOGY") ≡ Some words.topology.now)
    × (value_in found (codes "history") ≡ Some words.history.now)
    × IsNumberOrNone 1 100000 (value_in found (codes "turns")) words.turns
    × (value_in found (codes "until") ≡ option_map (λ until. until.now) words.until)
    × IsNumberOrNone 1 65535 (value_in found (codes "select")) words.select
    × IsNumberOr 1 1 100000 (value_in found (codes "resets")) words.resets
    × (value_in found (codes "from") ≡ option_map (λ from. from.now) words.from)

-- it is the subcommand `drive` with these values: the steps are from 1 to 1,000,000, the seed has 32 bits, and of a
-- thousand steps at most as many are faults, none where that isn't said
abbrev pub HasDriveWords : Found → DriveWords → Type 0
HasDriveWords found words = (name_in found ≡ Some (codes "drive"))
    × (value_in found (codes "TOPOLOGY") ≡ Some words.topology.now)
    × (value_in found (codes "history") ≡ Some words.history.now)
    × IsNumberWithin 1 1000000 (value_in found (codes "steps")) words.steps
    × IsNumberWithin 0 4294967295 (value_in found (codes "seed")) words.seed
    × IsNumberOr 0 0 1000 (value_in found (codes "faults")) words.faults
    × (value_in found (codes "from") ≡ option_map (λ from. from.now) words.from)

-- it is the subcommand `topology` with these values: the nodes are from 1 to 1,024, the seed is 0 where it isn't given
abbrev pub HasShapeWords : Found → ShapeWords → Type 0
HasShapeWords found words = (name_in found ≡ Some (codes "topology"))
    × (value_in found (codes "SHAPE") ≡ Some words.shape.now)
    × IsNumberWithin 1 1024 (value_in found (codes "N")) words.nodes
    × IsNumberOr 0 0 4294967295 (value_in found (codes "seed")) words.seed
    × (value_in found (codes "app") ≡ option_map (λ app. app.now) words.app)

-- it is the subcommand `explain` with this word, if it has one
abbrev pub MayHaveWord : Found → Option Text → Type 0
MayHaveWord found word = (name_in found ≡ Some (codes "explain")) × (value_in found (codes "WORD") ≡ word)

-- the subcommand and its values are those of the job
abbrev pub AskedBy : Found → Job → Type 0
AskedBy found Joined = found ≡ None
AskedBy found (Replay words) = HasReplayWords found words
AskedBy found (Check words) = HasCheckWords found words
AskedBy found (Plan words) = HasPlanWords found words
AskedBy found (Explore words) = HasExploreWords found words
AskedBy found (Session words) = HasSessionWords found words
AskedBy found (Verify words) = HasVerifyWords found words
AskedBy found (Picture words) = HasPictureWords found words
AskedBy found (Page words) = HasPageWords found words
AskedBy found (Record words) = HasRecordWords found words
AskedBy found (Threads words) = HasThreadWords found words
AskedBy found (Drive words) = HasDriveWords found words
AskedBy found (Shape words) = HasShapeWords found words
AskedBy found (Explain word) = MayHaveWord found (option_map (λ word. word.now) word)
AskedBy found Tables = name_in found ≡ Some (codes "tables")

-- what clap finds in the words asks for the job
abbrev pub AskFor : List Text → Job → Type 0
AskFor words = AskedBy (subcommand_of program words)

-- ---- what private clauses cite

-- the command is this one, with no argument that its subcommands take too
unfoldable pub IsCommand : App → Command → Type 0
IsCommand app command = (app_of command ≡ app) × ((fields_of command).has_globals ≡ false)

-- the argument reads as this rule, and no subcommand takes it too
unfoldable pub IsWord : Rule → Arg → Type 0
IsWord rule word = (rule_of word ≡ rule) × (word.global ≡ false)

-- a value was found for each of the two paths
abbrev pub HasTexts : Text → List Row → Type 0
HasTexts input rows = IsSome (first_of (codes "TOPOLOGY") rows) × IsSome (first_of input rows)

-- a number from the least to the most was found, which is read as it was written
abbrev pub HasNumber : Text → ℕ → ℕ → List Row → Type 0
HasNumber name least most rows = (number : ℕ) × IsNumberWithin least most (first_of name rows) number
    × (one_of name rows ≡ first_of name rows)

-- so it was, or nothing
abbrev pub MayHaveNumber : Text → ℕ → ℕ → List Row → Type 0
MayHaveNumber name least most rows =
    ((first_of name rows ≡ None) × (one_of name rows ≡ None)) ⊎ HasNumber name least most rows

-- what `plan` needs was found
abbrev pub HasPlan : List Row → Type 0
HasPlan rows = IsSome (first_of (codes "TOPOLOGY") rows)

-- the value of a flag, if it has one, is `true` or `false`, and is read as it was written
abbrev pub HasFlag : Text → List Row → Type 0
HasFlag name rows = IfSome (first_of name rows) (λ value. (value ≡ codes "true") ⊎ (value ≡ codes "false"))
    × (one_of name rows ≡ first_of name rows)

-- what `replay` needs was found
abbrev pub HasReplay : List Row → Type 0
HasReplay rows = HasTexts (codes "SCRIPT") rows × HasFlag (codes "number") rows × HasFlag (codes "strict") rows

-- what `check` needs was found
abbrev pub HasCheck : List Row → Type 0
HasCheck rows = HasTexts (codes "SCRIPT") rows × HasFlag (codes "repair") rows × HasFlag (codes "whole") rows

-- what `session` needs was found
abbrev pub HasSession : List Row → Type 0
HasSession rows = IsSome (first_of (codes "TOPOLOGY") rows) × HasFlag (codes "no-sync") rows

-- what `verify` needs was found
abbrev pub HasVerify : List Row → Type 0
HasVerify rows = HasTexts (codes "HISTORY") rows × HasFlag (codes "why") rows × MayHaveNumber (codes "at") 0 1000000 rows

-- what `explore` needs was found
abbrev pub HasExplore : List Row → Type 0
HasExplore rows = IsSome (first_of (codes "TOPOLOGY") rows) × HasFlag (codes "acts") rows
    × MayHaveNumber (codes "most") 1 100000000 rows

-- what `record` needs was found
abbrev pub HasRecord : List Row → Type 0
HasRecord rows = HasTexts (codes "SCRIPT") rows × IsSome (first_of (codes "history") rows)

-- what `threads` needs was found
abbrev pub HasThreads : List Row → Type 0
HasThreads rows = HasTexts (codes "history") rows × MayHaveNumber (codes "turns") 1 100000 rows
    × MayHaveNumber (codes "select") 1 65535 rows × MayHaveNumber (codes "resets") 1 100000 rows

-- what `drive` needs was found
abbrev pub HasDrive : List Row → Type 0
HasDrive rows = HasTexts (codes "history") rows × HasNumber (codes "steps") 1 1000000 rows
    × HasNumber (codes "seed") 0 4294967295 rows × MayHaveNumber (codes "faults") 0 1000 rows

-- what `topology` needs was found
abbrev pub HasShape : List Row → Type 0
HasShape rows = IsSome (first_of (codes "SHAPE") rows) × HasNumber (codes "N") 1 1024 rows
    × MayHaveNumber (codes "seed") 0 4294967295 rows

-- it is a subcommand that answers a script, with the values that it needs
abbrev pub HasScriptJob : Text × List Row → Type 0
HasScriptJob s = ((s.0 ≡ codes "replay") × HasReplay s.1) ⊎ ((s.0 ≡ codes "check") × HasCheck s.1)

-- a subcommand of the program with the values that it needs, or none
abbrev pub HasJob : Found → Type 0
HasJob None = ⊤
HasJob (Some s) = HasScriptJob s
    ⊎ (((s.0 ≡ codes "picture") × HasTexts (codes "HISTORY") s.1)
    ⊎ (((s.0 ≡ codes "record") × HasRecord s.1)
    ⊎ (((s.0 ≡ codes "threads") × HasThreads s.1)
    ⊎ (((s.0 ≡ codes "drive") × HasDrive s.1)
    ⊎ (((s.0 ≡ codes "topology") × HasShape s.1)
    ⊎ ((s.0 ≡ codes "explain")
    ⊎ ((s.0 ≡ codes "tables")
    ⊎ (((s.0 ≡ codes "plan") × HasPlan s.1)
    ⊎ (((s.0 ≡ codes "session") × HasSession s.1)
    ⊎ (((s.0 ≡ codes "explore") × HasExplore s.1)
    ⊎ (((s.0 ≡ codes "page") × HasTexts (codes "HISTORY") s.1)
    ⊎ ((s.0 ≡ codes "verify") × HasVerify s.1))))))))))))
