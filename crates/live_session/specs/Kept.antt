-- Sessions that keep a history: a new one, or one that goes on.
use Rattle.std.specs.Prelude.{◌≡◌, ℕ, ◌-◌, List, [], ◌∷◌, ◌++◌, codes, length, Option, Some, Ok, Err}
use Rattle.std.specs.Fmt.{decimal}
use Rattle.std.specs.List.{concat}
use Rattle.std.specs.Io.KnownBytes.{Appends, Keeps}
use Rattle.action_tables.specs.Written.{AppendsPrefix}
use Rattle.reset_model.specs.Configuration.{Configuration}
use Rattle.applications.specs.Meaning.{Meaning}
use Rattle.history.specs.Entries.{replayed}
use Rattle.history.specs.HistoryText.{IsReadAs, IsReadWhole, ended, entries_text, first_line, history_text}
use Rattle.history.specs.Reports.{reports_of}
use Rattle.history.specs.Verdict.{IsVerdict}
use Rattle.history.specs.declared.entry.Entry.{Entry}
use Rattle.history.specs.declared.verification.ReaderFault.{ReaderFault}
use Rattle.live_session.specs.declared.kept.ResumeStop.{ResumeStop}
use Rattle.live_session.specs.declared.kept.ResumeStop.TheVariants.{Past, Run}
use Rattle.live_session.specs.Course.{Exchange, IsCutShort, answers_text, course, entries_of}

-- the line of a session that goes on
abbrev pub resumed_text : ℕ → ℕ → List ℕ
resumed_text entries reports =
    concat (codes "resumed " ∷ decimal entries ∷ codes " entries " ∷ decimal reports ∷ ended (codes " reports") ∷ [])

-- the exchanges of a session from a configuration on, with room for so many entries
abbrev pub exchanges_of : {L : Type 0} → Meaning L → ℕ → Configuration L → List ℕ → List Exchange
exchanges_of m room c text = (course m (Some room) c text).exchanges

-- ---- a new history

-- the lines of a reader were answered, and the new history is that of their entries
pub record HasBegun {L : Type 0} (m : Meaning L) (c : Configuration L) (known log log' out out' : Option (List ℕ))
    (left : Configuration L) : Type 0 where
  pub text : List ℕ
  pub read : IsReadWhole known text
  pub left_is : left ≡ (course m (Some 1000000) c text).config
  pub kept : Appends log log' (history_text c.modulus (entries_of (exchanges_of m 1000000 c text)))
  pub answered : Appends out out' (answers_text (exchanges_of m 1000000 c text))

-- a session with a new history was cut short: within its first line, or after it
pub data IsCutAtBeginning {L : Type 0} (m : Meaning L) (c : Configuration L)
    (known log log' out out' : Option (List ℕ)) : Type 0 where
  in_first_line : AppendsPrefix log log' (ended (first_line c.modulus)) → Keeps out out'
      → IsCutAtBeginning m c known log log' out out'
  later : (begun : Option (List ℕ)) (text : List ℕ) → Appends log begun (ended (first_line c.modulus))
      → IsReadWhole known text → IsCutShort (Some 1000000) (exchanges_of m 1000000 c text) begun log' out out'
      → IsCutAtBeginning m c known log log' out out'

-- ---- a session after its first answer

-- the lines of a reader were answered after this first line, and their entries went to the history
pub record HasGoneOn {L : Type 0} (m : Meaning L) (room : ℕ) (c : Configuration L) (line : List ℕ)
    (known log log' out out' : Option (List ℕ)) (left : Configuration L) : Type 0 where
  pub text : List ℕ
  pub read : IsReadWhole known text
  pub left_is : left ≡ (course m (Some room) c text).config
  pub kept : Appends log log' (entries_text (entries_of (exchanges_of m room c text)))
  pub answered : Appends out out' (line ++ answers_text (exchanges_of m room c text))

-- it was cut short: within the first line, or after it
pub data IsCutGoingOn {L : Type 0} (m : Meaning L) (room : ℕ) (c : Configuration L) (line : List ℕ)
    (known log log' out out' : Option (List ℕ)) : Type 0 where
  within_line : Keeps log log' → AppendsPrefix out out' line → IsCutGoingOn m room c line known log log' out out'
  after_line : (begun held : Option (List ℕ)) (text : List ℕ) → Appends out begun line → Keeps log held
      → IsReadWhole known text → IsCutShort (Some room) (exchanges_of m room c text) held log' begun out'
      → IsCutGoingOn m room c line known log log' out out'

-- ---- a history that goes on

-- the past is a history of these entries, which lead from an opening to a configuration
pub record IsPast {L : Type 0} (m : Meaning L) (opening : Configuration L) (past : Option (List ℕ)) (es : List Entry)
    (c : Configuration L) : Type 0 where
  pub text : List ℕ
  pub whole : IsReadWhole past text
  pub read : IsReadAs text (Ok (opening.modulus, es))
  pub left_is : replayed m.app m.from_text opening es ≡ Some c

abbrev pub resumed_line : {L : Type 0} → Meaning L → Configuration L → List Entry → List ℕ
resumed_line m opening es = resumed_text (length es) (length (reports_of m.app m.from_text opening es))

-- the lines of a reader were answered where the entries of the past lead to, and theirs follow in the history
pub record HasResumed {L : Type 0} (m : Meaning L) (opening : Configuration L)
    (past known log log' out out' : Option (List ℕ)) (left : Configuration L) : Type 0 where
  pub entries : List Entry
  pub config : Configuration L
  pub past_is : IsPast m opening past entries config
  pub text : List ℕ
  pub read : IsReadWhole known text
  pub left_is : left ≡ (course m (Some (1000000 - length entries)) config text).config
  pub kept : Appends log log' (entries_text (entries_of (exchanges_of m (1000000 - length entries) config text)))
  pub answered : Appends out out'
      (resumed_line m opening entries ++ answers_text (exchanges_of m (1000000 - length entries) config text))

-- the past isn't a history that goes on from the opening, as a verification finds, and nothing was written
pub record IsNoPast {L : Type 0} (m : Meaning L) (opening : Configuration L) (past log log' out out' : Option (List ℕ))
    (fault : ReaderFault) : Type 0 where
  pub text : List ℕ
  pub whole : IsReadWhole past text
  pub found : IsVerdict m.app m.from_text opening text (Err fault)
  pub log_is : Keeps log log'
  pub out_is : Keeps out out'

-- a session that goes on was cut short: before it answered a line, or later
pub data IsCutOnItsWay {L : Type 0} (m : Meaning L) (opening : Configuration L)
    (past known log log' out out' : Option (List ℕ)) : Type 0 where
  in_its_line : (es : List Entry) (c : Configuration L) → IsPast m opening past es c → Keeps log log'
      → AppendsPrefix out out' (resumed_line m opening es) → IsCutOnItsWay m opening past known log log' out out'
  later : (es : List Entry) (c : Configuration L) (begun held : Option (List ℕ)) (text : List ℕ)
      → IsPast m opening past es c → Appends out begun (resumed_line m opening es) → Keeps log held
      → IsReadWhole known text
      → IsCutShort (Some (1000000 - length es)) (exchanges_of m (1000000 - length es) c text) held log' begun out'
      → IsCutOnItsWay m opening past known log log' out out'

-- it didn't come to its end
abbrev pub IsStopped : {L : Type 0} → Meaning L → Configuration L → (past known log log' out out' : Option (List ℕ))
    → ResumeStop → Type 0
IsStopped m opening past known log log' out out' (Past fault) = IsNoPast m opening past log log' out out' fault
IsStopped m opening past known log log' out out' (Run stop) = IsCutOnItsWay m opening past known log log' out out'
