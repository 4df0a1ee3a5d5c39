-- How far a session is: what the clauses of private functions cite.
use Rattle.std.specs.Prelude.{◌≡◌, ℕ, ◌+◌, Bool, true, false, if◌then◌else◌, List, [], ◌∷◌, ◌++◌, take, Option}
use Rattle.std.specs.Io.KnownBytes.{Appends, Keeps}
use Rattle.action_tables.specs.Cuts.{HasNo}
use Rattle.action_tables.specs.Written.{AppendsPrefix}
use Rattle.reset_model.specs.Configuration.{Configuration}
use Rattle.reset_model.specs.declared.event.Event.{Event}
use Rattle.applications.specs.Meaning.{Meaning}
use Rattle.history.specs.declared.entry.Entry.{Entry}
use Rattle.history.specs.declared.entry.Entry.TheVariants as entry
use Rattle.script_replay.specs.Lines.{lines_of}
use Rattle.script_replay.specs.Script.{line_of}
use Rattle.script_replay.specs.declared.script.Line.{Line}
use Rattle.live_session.specs.Course.{Course, Exchange, IsCutShort, IsDone}
use Rattle.live_session.specs.Course.{answers_text, config_after, course, course_of, exchange, is_exit}
use Rattle.live_session.specs.Course.{kept_lines, kept_text, led_by, rested, room_after}
use Rattle.live_session.specs.declared.batch.Batch.{Batch}
use Rattle.live_session.specs.declared.session.Session.{Session}

-- ---- one line

-- a line was answered so, and left these entries
pub record HasActed (room : Option ℕ) (answer : List ℕ) (entries : List Entry) (left : Option ℕ) (old new : Batch)
    : Type 0 where
  pub room_is : left ≡ room_after room entries
  pub answers_are : new.answers.items ≡ old.answers.items ++ answer
  pub entries_are : new.entries.items ≡ old.entries.items ++ kept_lines room entries

-- the entry of an event, if it was applied
abbrev pub entry_if : Bool → Event → List Entry
entry_if applied e = if applied then entry.Step e ∷ [] else []

-- the n-th line was answered, which has this text
pub record IsAnswered {L : Type 0} (m : Meaning L) (room : Option ℕ) (c : Configuration L) (n : ℕ) (text : List ℕ)
    (line : Line) (left : Option ℕ) (c' : Configuration L) (old new : Batch) : Type 0 where
  pub config_is : c' ≡ config_after m room c n line
  pub acted : HasActed room (exchange m room c n text line).answer (exchange m room c n text line).entries left old new

-- the first bytes of a line are kept: all of them, or more than a good line has
abbrev pub IsFront : List ℕ → List ℕ → Type 0
IsFront kept line = kept ≡ take 257 line

-- the line with this text was answered, unless it ends the session
pub record HasTaken {P L : Type 0} (m : Meaning L) (text : List ℕ) (ends : Bool) (old new : Session P L) : Type 0 where
  pub exits : ends ≡ is_exit text
  pub same_config : ends ≡ true → new.config ≡ old.config
  pub same_batch : ends ≡ true → new.batch ≡ old.batch
  pub number_is : ends ≡ false → new.number ≡ old.number + 1
  pub answered : ends ≡ false
      → IsAnswered m old.room old.config old.number text (line_of m.names text) new.room new.config old.batch new.batch

-- ---- what is held back

-- a commit failed: the entries weren't all written, and no answer was; or they were, and the answers weren't all
pub data IsUncommitted (held : Batch) (log log' out out' : Option (List ℕ)) : Type 0 where
  entries_failed : AppendsPrefix log log' held.entries.items → Keeps out out' → IsUncommitted held log log' out out'
  answers_failed : Appends log log' held.entries.items → AppendsPrefix out out' held.answers.items
      → IsUncommitted held log log' out out'

-- ---- how far a session is

-- where it began: the room of its history, its configuration, and what its two writers had
pub record Start (L : Type 0) : Type 0 where
  pub room : Option ℕ
  pub config : Configuration L
  pub log : Option (List ℕ)
  pub out : Option (List ℕ)

-- which exchanges were written and which are held back, and how the session goes on in each future, of which it has this
-- text
pub record Goes {F L : Type 0} (m : Meaning L) (s : Start L) (text : F → List ℕ) (on : F → Course L) (batch : Batch)
    (log out : Option (List ℕ)) : Type 0 where
  pub sent : List Exchange
  pub held : List Exchange
  pub goes_on : (more : F) → course m s.room s.config (text more) ≡ led_by (sent ++ held) (on more)
  pub kept : Appends s.log log (kept_text s.room sent)
  pub answered : Appends s.out out (answers_text sent)
  pub entries : batch.entries.items ≡ kept_text s.room held
  pub answers : batch.answers.items ≡ answers_text held

-- after these bytes were read, with those that come
abbrev pub after : List ℕ → List ℕ → List ℕ
after given more = given ++ more

-- it is within this line
pub record IsWithin {P L : Type 0} (m : Meaning L) (s : Start L) (given line : List ℕ) (now : Session P L)
    (log out : Option (List ℕ)) : Type 0 where
  pub front : IsFront now.partial.items line
  pub unbroken : HasNo 10 line
  -- both keep a history, or neither does
  pub alike : (entries : List Entry) → kept_lines now.room entries ≡ kept_lines s.room entries
  pub goes : Goes m s (after given) (λ more. course_of m now.room now.config now.number (lines_of (line ++ more))) now.batch log out

abbrev pub IsAt : {P L : Type 0} → Meaning L → Start L → List ℕ → Session P L → Option (List ℕ) → Option (List ℕ)
    → Type 0
IsAt m s given now log out = (line : List ℕ) × IsWithin m s given line now log out

-- it has ended, whatever comes
abbrev pub HasEnded : {P L : Type 0} → Meaning L → Start L → List ℕ → Session P L → Option (List ℕ) → Option (List ℕ)
    → Type 0
HasEnded m s given now log out = Goes m s (after given) (λ more. rested now.config) now.batch log out

-- it has ended with this text
abbrev pub HasEndedWith : {P L : Type 0} → Meaning L → Start L → List ℕ → Session P L → Option (List ℕ)
    → Option (List ℕ) → Type 0
HasEndedWith m s text now log out =
    Goes {F = Unit {0}} m s (λ only. text) (λ only. rested now.config) now.batch log out

abbrev pub Comes : {P L : Type 0} → Bool → Meaning L → Start L → List ℕ → Session P L → Option (List ℕ)
    → Option (List ℕ) → Type 0
Comes true = HasEnded
Comes false = IsAt

-- it is done: this configuration is left, and all was answered and kept
pub record HasDone {L : Type 0} (m : Meaning L) (s : Start L) (text : List ℕ) (left : Configuration L)
    (log out : Option (List ℕ)) : Type 0 where
  pub left_is : left ≡ (course m s.room s.config text).config
  pub done : IsDone s.room (course m s.room s.config text).exchanges s.log log s.out out

-- it was cut short
abbrev pub IsCut : {L : Type 0} → Meaning L → Start L → List ℕ → Option (List ℕ) → Option (List ℕ) → Type 0
IsCut m s text log out = IsCutShort s.room (course m s.room s.config text).exchanges s.log log s.out out
