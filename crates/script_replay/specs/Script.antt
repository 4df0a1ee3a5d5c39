-- The lines of a script, and the commands that they spell.
use Rattle.std.specs.Prelude.{◌≡◌, ℕ, ◌<◌, ◌^◌, ◌%◌, nat_lt, ◌==◌, Bool, true, false, ◌&&◌, ◌⊎◌, if◌then◌else◌, List}
use Rattle.std.specs.Prelude.{[], ◌∷◌, ◌++◌, map, length, codes, slice_index_or, unwrap_or, option_map, IsTrue, Option}
use Rattle.std.specs.Prelude.{Some, None}
use Rattle.std.specs.Char.{is_ascii_alphabetic, is_ascii_graphic}
use Rattle.std.specs.Fmt.{decimal}
use Rattle.std.specs.List.{find, join_with_byte, list_all}
use Rattle.std.specs.Str.{bytes_eq}
use Rattle.action_tables.specs.Numbers.{all_cases}
use Rattle.app_interface.specs.FromText.{number_of}
use Rattle.reset_model.specs.EventText.{event_words, neighbour_words, Fits}
use Rattle.reset_model.specs.Words.{words_of}
use Rattle.fault_inject.specs.FaultText as fault
use Rattle.fault_inject.specs.declared.fault.Fault.TheVariants.{SetTree, SetWave, SetLocal, LinkDown, LinkUp}
use Rattle.fault_inject.specs.declared.fault.Fault.TheVariants.{NodeDown, NodeUp}
use Rattle.history.specs.HistoryText.{IsPrintable}
use Rattle.wave_layer.specs.declared.regs.Phase.TheVariants.{Normal, Initiate, Reset}
use Rattle.reset_model.specs.declared.event.Event.TheVariants.{Claim, Follow, Adopt, Request, Relay, Open, Join, Finish}
use Rattle.reset_model.specs.declared.event.Event.TheVariants.{Mend, Act}
use Rattle.script_replay.specs.declared.script.Command.{Command}
use Rattle.script_replay.specs.declared.script.Command.TheVariants.{Step, Inject, Draw, Show, ShowNode, Newest, Enabled}
use Rattle.script_replay.specs.declared.script.Command.TheVariants.{Ready, Check, CheckNode, Alarm, Watch, Moves}
use Rattle.script_replay.specs.declared.script.Command.TheVariants.{MovesOf, Snapshot, Invariant}
use Rattle.script_replay.specs.declared.script.Line.{Line}
use Rattle.script_replay.specs.declared.script.Line.TheVariants.{Silent, Asks, Bad}

-- a command in words
abbrev pub command_words : Command → List (List ℕ)
command_words (Step e) = event_words e
command_words (Inject f) = fault.fault_words f
command_words (Draw seed) = codes "draw" ∷ decimal seed ∷ []
command_words Show = codes "show" ∷ []
command_words (ShowNode at) = codes "show" ∷ decimal at ∷ []
command_words Newest = codes "newest" ∷ []
command_words (Enabled at) = codes "enabled" ∷ decimal at ∷ []
command_words Ready = codes "ready" ∷ []
command_words Check = codes "check" ∷ []
command_words (CheckNode at) = codes "check" ∷ decimal at ∷ []
command_words (Alarm at) = codes "alarm" ∷ decimal at ∷ []
command_words (Watch at) = codes "watch" ∷ decimal at ∷ []
command_words Moves = codes "moves" ∷ []
command_words (MovesOf at) = codes "moves" ∷ decimal at ∷ []
command_words Snapshot = codes "snapshot" ∷ []
command_words Invariant = codes "invariant" ∷ []

-- the words ask something of the node with this identifier, or draw a fault from this number
abbrev pub AsksAbout : ℕ → List (List ℕ) → Type 0
AsksAbout at words =
    (words ≡ command_words (ShowNode at))
    ⊎ ((words ≡ command_words (Enabled at)) ⊎ ((words ≡ command_words (CheckNode at))
    ⊎ ((words ≡ command_words (Alarm at)) ⊎ ((words ≡ command_words (Watch at)) ⊎ ((words ≡ command_words (Draw at))
    ⊎ (words ≡ command_words (MovesOf at)))))))

-- the one line of a command with its case, if it has one, by number: its words, with a space between each two
abbrev pub command_line : Command → List ℕ
command_line command = join_with_byte 32 (command_words command)

-- the numbers of a command are those of 32 bits, that of a case is one of 8 bits, and a text is one word
abbrev pub CommandFits : Command → Type 0
CommandFits (Step e) = Fits e
CommandFits (Inject f) = fault.Fits f × IsPrintable f
CommandFits (Draw seed) = seed < 2 ^ 32
CommandFits Show = Unit {0}
CommandFits (ShowNode at) = at < 2 ^ 32
CommandFits Newest = Unit {0}
CommandFits (Enabled at) = at < 2 ^ 32
CommandFits Ready = Unit {0}
CommandFits Check = Unit {0}
CommandFits (CheckNode at) = at < 2 ^ 32
CommandFits (Alarm at) = at < 2 ^ 32
CommandFits (Watch at) = at < 2 ^ 32
CommandFits Moves = Unit {0}
CommandFits (MovesOf at) = at < 2 ^ 32
CommandFits Snapshot = Unit {0}
CommandFits Invariant = Unit {0}

-- the command fits, and is no fault
abbrev pub IsPlain : Command → Type 0
IsPlain (Inject f) = ⊥
IsPlain command = CommandFits command

-- ---- cases by name

-- whether a word may name a case: it begins with a letter, and has only the bytes 33 to 126
abbrev pub is_name : List ℕ → Bool
is_name [] = false
is_name (byte ∷ bytes) = is_ascii_alphabetic byte && list_all is_ascii_graphic (byte ∷ bytes)

-- whether a name is this word
abbrev pub is_called : Option (List ℕ) → List ℕ → Bool
is_called None word = false
is_called (Some name) word = bytes_eq name word

-- the case with this name; where there is none, 0, which is the number of no case
unfoldable pub case_named : (ℕ → Option (List ℕ)) → List ℕ → ℕ
case_named names word = unwrap_or (find (λ n. is_called (names n) word) all_cases) 0

-- an action in words, with its case by name
abbrev pub named_words : ℕ → List ℕ → Option ℕ → List (List ℕ)
named_words at word with = codes "act" ∷ decimal at ∷ word ∷ neighbour_words with

-- the line spells the command: in its own words, or, an action, with a name for its case
pub data Spells (names : ℕ → Option (List ℕ)) (line : List ℕ) (command : Command) : Type 0 where
  by_words : CommandFits command → line ≡ command_line command → Spells names line command
  by_name : (at : ℕ) (word : List ℕ) (with : Option ℕ) → Fits (Act at 0 with) → IsTrue (is_name word)
      → line ≡ join_with_byte 32 (named_words at word with)
      → command ≡ Step (Act at (case_named names word) with) → Spells names line command

-- ---- the command of a line

-- words, and the command that they spell
pub record Spelling : Type 0 where
  pub words : List (List ℕ)
  pub command : Command

-- a command in its own words
abbrev pub in_words : Command → Spelling
in_words command = record { words = command_words command; command = command }

-- an action with a name for its case
abbrev pub with_name : (ℕ → Option (List ℕ)) → ℕ → List ℕ → Option ℕ → Spelling
with_name names at word with =
    record { words = named_words at word with; command = Step (Act at (case_named names word) with) }

-- the word at a place, which counts from 0, or no bytes where there is none
abbrev pub word_at : List (List ℕ) → ℕ → List ℕ
word_at words i = slice_index_or words i []

-- the number of the word at a place: the word's own where it spells one of 32 bits
abbrev pub number_at : List (List ℕ) → ℕ → ℕ
number_at words i = number_of (word_at words i)

-- the commands with these numbers
abbrev pub commands_with : ℕ → ℕ → ℕ → List Command
commands_with m n k =
    Show ∷ ShowNode m ∷ Newest ∷ Enabled m ∷ Ready ∷ Step (Claim m) ∷ Step (Follow m) ∷ Step (Adopt m n)
    ∷ Step (Request m) ∷ Step (Relay m n) ∷ Step (Open m) ∷ Step (Join m) ∷ Step (Finish m) ∷ Step (Mend m)
    ∷ Step (Act m (n % 2 ^ 8) None) ∷ Step (Act m (n % 2 ^ 8) (Some k)) ∷ Check ∷ CheckNode m ∷ Alarm m ∷ Watch m
    ∷ Draw m ∷ Moves ∷ MovesOf m ∷ Snapshot ∷ Invariant ∷ []

-- whether a text may be a word of a line: it isn't empty, and has only the bytes 33 to 126
abbrev pub is_text : List ℕ → Bool
is_text [] = false
is_text (byte ∷ bytes) = list_all is_ascii_graphic (byte ∷ bytes)

-- the faults with these numbers
abbrev pub faults_with : ℕ → ℕ → ℕ → ℕ → List Command
faults_with m n k l =
    Inject (SetTree m (record { root = n; father = k; dist = l }))
    ∷ Inject (SetWave m (record { phase = Normal; session = k }))
    ∷ Inject (SetWave m (record { phase = Initiate; session = k }))
    ∷ Inject (SetWave m (record { phase = Reset; session = k }))
    ∷ Inject (LinkDown m n) ∷ Inject (LinkUp m n) ∷ Inject (NodeDown m) ∷ Inject (NodeUp m) ∷ []

-- the fault that puts the local state with this text, if it is one
abbrev pub local_faults_with : ℕ → List ℕ → List Command
local_faults_with m text = if is_text text then Inject (SetLocal m text) ∷ [] else []

-- the actions with these numbers and with this name, if it is one
abbrev pub actions_with : (ℕ → Option (List ℕ)) → ℕ → List ℕ → ℕ → List Spelling
actions_with names m word k =
    if is_name word then with_name names m word None ∷ with_name names m word (Some k) ∷ [] else []

-- the commands that may have these words as their own
abbrev pub own_commands : List (List ℕ) → List Command
own_commands words =
    commands_with (number_at words 1) (number_at words 2) (number_at words 3)
    ++ faults_with (number_at words 2) (number_at words 3) (number_at words 4) (number_at words 5)
    ++ local_faults_with (number_at words 2) (word_at words 3)

-- what these words may spell: the third is a number or a name
abbrev pub spellings : (ℕ → Option (List ℕ)) → List (List ℕ) → List Spelling
spellings names words =
    actions_with names (number_at words 1) (word_at words 2) (number_at words 3)
    ++ map in_words (own_commands words)

-- the command that a line spells: that of the first of the spellings whose words, with a space between each two, are
-- the line
unfoldable pub command_of : (ℕ → Option (List ℕ)) → List ℕ → Option Command
command_of names line =
    option_map (λ s. s.command)
    (find (λ s. bytes_eq line (join_with_byte 32 s.words)) (spellings names (words_of line)))

-- nothing, or a comment
abbrev pub is_silent : List ℕ → Bool
is_silent [] = true
is_silent (byte ∷ bytes) = byte == 35

abbrev pub asked : Option Command → Line
asked (Some command) = Asks command
asked None = Bad

-- what a line asks for
abbrev pub line_of : (ℕ → Option (List ℕ)) → List ℕ → Line
line_of names line =
    if nat_lt 256 (length line) then Bad else (if is_silent line then Silent else asked (command_of names line))
