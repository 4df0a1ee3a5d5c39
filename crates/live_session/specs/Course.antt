-- What the lines of a session are answered, and which entries they leave in its history.
use Rattle.std.specs.Prelude.{◌≡◌, ℕ, ◌+◌, ◌-◌, ◌==◌, Bool, true, false, ◌&&◌, if◌then◌else◌, List, [], ◌∷◌, ◌++◌, codes}
use Rattle.std.specs.Prelude.{length, Option, Some, None, unwrap_or}
use Rattle.std.specs.List.{flat_map}
use Rattle.std.specs.Str.{bytes_eq}
use Rattle.std.specs.Io.KnownBytes.{Appends}
use Rattle.action_tables.specs.Written.{AppendsPrefix}
use Rattle.explanations.specs.Help.{helped}
use Rattle.reset_model.specs.Configuration.{Configuration}
use Rattle.applications.specs.Meaning.{Meaning}
use Rattle.history.specs.HistoryText.{ended, entries_text}
use Rattle.history.specs.declared.entry.Entry.{Entry}
use Rattle.script_replay.specs.Lines.{lines_of}
use Rattle.script_replay.specs.Output.{answer_to, bad_line_text}
use Rattle.script_replay.specs.Recorded.{line_entries}
use Rattle.script_replay.specs.Script.{line_of}
use Rattle.script_replay.specs.declared.script.Command.TheVariants.{Step, Inject, Draw, Watch}
use Rattle.script_replay.specs.declared.script.Line.{Line}
use Rattle.script_replay.specs.declared.script.Line.TheVariants.{Asks, Bad}

-- ---- one line

-- the answer to a line, and the entries that it leaves, at most one
pub record Exchange : Type 0 where
  pub answer : List ℕ
  pub entries : List Entry

-- for how many more entries a history has room; None where the session keeps no history
abbrev pub is_full : Option ℕ → Bool
is_full None = false
is_full (Some room) = room == 0

-- the room that entries leave
abbrev pub room_after : Option ℕ → List Entry → Option ℕ
room_after None entries = None
room_after (Some room) entries = Some (room - length entries)

-- whether a line asks for a change of the network
abbrev pub asks_for_change : Line → Bool
asks_for_change (Asks (Step e)) = true
asks_for_change (Asks (Inject f)) = true
asks_for_change (Asks (Draw seed)) = true
asks_for_change (Asks (Watch i)) = true
asks_for_change line = false

-- whether there is no room for what the line asks for
abbrev pub is_refused : Option ℕ → Line → Bool
is_refused room line = is_full room && asks_for_change line

abbrev pub full_text : List ℕ
full_text = ended (codes "refused BookFull")

-- what the n-th line is answered that is no line of a script: the help that it asks for, or that it is bad
abbrev pub unread_text : ℕ → List ℕ → List ℕ
unread_text n text = unwrap_or (helped text) (bad_line_text n)

-- what the n-th line is answered, which has this text
abbrev pub reply_text : {L : Type 0} → Meaning L → Configuration L → ℕ → List ℕ → Line → List ℕ
reply_text m c n text Bad = unread_text n text
reply_text m c n text line = (answer_to m c n line).text

-- what the n-th line is answered and leaves: what a script answers to it, unless the history is full
abbrev pub exchange : {L : Type 0} → Meaning L → Option ℕ → Configuration L → ℕ → List ℕ → Line → Exchange
exchange m room c n text line =
    if is_refused room line then record { answer = full_text; entries = [] }
    else record { answer = reply_text m c n text line; entries = line_entries m c line }

abbrev pub config_after : {L : Type 0} → Meaning L → Option ℕ → Configuration L → ℕ → Line → Configuration L
config_after m room c n line = if is_refused room line then c else (answer_to m c n line).config

-- ---- all lines

-- the line that ends a session
abbrev pub is_exit : List ℕ → Bool
is_exit line = bytes_eq line (codes "exit")

-- the exchanges of a session, and the configuration that it leaves
pub record Course (L : Type 0) : Type 0 where
  pub exchanges : List Exchange
  pub config : Configuration L

abbrev pub rested : {L : Type 0} → Configuration L → Course L
rested c = record { exchanges = []; config = c }

-- a course that these exchanges lead to
abbrev pub led_by : {L : Type 0} → List Exchange → Course L → Course L
led_by exchanges course = record { exchanges = exchanges ++ course.exchanges; config = course.config }

-- the course of a session over lines, of which the first has the number n: a line that a script doesn't have is answered
-- and changes nothing, and `exit` ends it
unfoldable pub course_of : {L : Type 0} → Meaning L → Option ℕ → Configuration L → ℕ → List (List ℕ) → Course L
course_of m room c n [] = rested c
course_of m room c n (line ∷ lines) =
    if is_exit line then rested c
    else (let e = exchange m room c n line (line_of m.names line) in led_by (e ∷ [])
    (course_of m (room_after room e.entries) (config_after m room c n (line_of m.names line)) (n + 1) lines))

-- the course of a session over the lines of a text
abbrev pub course : {L : Type 0} → Meaning L → Option ℕ → Configuration L → List ℕ → Course L
course m room c text = course_of m room c 1 (lines_of text)

-- ---- what a session writes

abbrev pub answers_text : List Exchange → List ℕ
answers_text exchanges = flat_map (λ e. e.answer) exchanges

abbrev pub entries_of : List Exchange → List Entry
entries_of exchanges = flat_map (λ e. e.entries) exchanges

-- the lines that entries have in the history, if the session keeps one
abbrev pub kept_lines : Option ℕ → List Entry → List ℕ
kept_lines None entries = []
kept_lines (Some room) entries = entries_text entries

-- what goes to the history of the exchanges
abbrev pub kept_text : Option ℕ → List Exchange → List ℕ
kept_text room exchanges = kept_lines room (entries_of exchanges)

-- all exchanges were answered and kept
pub record IsDone (room : Option ℕ) (exchanges : List Exchange) (log log' out out' : Option (List ℕ)) : Type 0 where
  pub kept : Appends log log' (kept_text room exchanges)
  pub answered : Appends out out' (answers_text exchanges)

-- a session was cut short: what was answered is a prefix of the answers of the first exchanges; the history has all
-- their entries, and perhaps more of the session's, the last of them perhaps in part
pub record IsCutShort (room : Option ℕ) (exchanges : List Exchange) (log log' out out' : Option (List ℕ)) : Type 0 where
  pub first : List Exchange
  pub rest : List Exchange
  pub split : exchanges ≡ first ++ rest
  pub answered : AppendsPrefix out out' (answers_text first)
  pub more : List ℕ
  pub last : List ℕ
  pub kept : Appends log log' (kept_text room first ++ more)
  pub within : kept_text room rest ≡ more ++ last
