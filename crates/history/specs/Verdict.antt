-- What a history's text comes to: what its entries tell, or why it is none.
use Rattle.std.specs.Prelude.{◌≡◌, ◌≢◌, ℕ, ⊤, List, length, take, IsSome, Option, Some, None, Result, Ok, Err}
use Rattle.app_interface.specs.Application.{App}
use Rattle.reset_model.specs.Configuration.{Configuration}
use Rattle.history.specs.declared.entry.Entry.{Entry}
use Rattle.history.specs.declared.entry.Report.{Report}
use Rattle.history.specs.declared.entry.Summary.{Summary}
use Rattle.history.specs.declared.entry.VerifyFault.TheVariants.{NotEnabledAt}
use Rattle.history.specs.declared.entry.VerifyFault.TheVariants as verify
use Rattle.history.specs.declared.text.BookFault.TheVariants as book
use Rattle.history.specs.declared.verification.ReaderFault.{ReaderFault}
use Rattle.history.specs.declared.verification.JudgeFault.{JudgeFault}
use Rattle.history.specs.declared.verification.JudgeFault.TheVariants as judge
use Rattle.history.specs.declared.verification.Resumed.{Resumed}
use Rattle.history.specs.declared.verification.ReaderFault.TheVariants as reader
use Rattle.history.specs.Entries.{IsFirstRefused, IsRefusal, replayed}
use Rattle.history.specs.HistoryText.{IsReadAs}
use Rattle.history.specs.Reports.{reports_of}

-- each of the entries is allowed where it stands, and this is their number and what they report
pub record IsSummary {L : Type 0} (app : App L) (from_text : List ℕ → Option L) (c : Configuration L) (es : List Entry)
    (s : Summary) : Type 0 where
  pub allowed : IsSome (replayed app from_text c es)
  pub entries : s.entries ≡ length es
  pub reports : s.reports.items ≡ reports_of app from_text c es

-- and this is the configuration that they leave
pub record IsResumed {L : Type 0} (app : App L) (from_text : List ℕ → Option L) (c : Configuration L) (es : List Entry)
    (left : Configuration L) (s : Summary) : Type 0 where
  pub summary : IsSummary app from_text c es s
  pub left_is : replayed app from_text c es ≡ Some left

-- what is answered of the text of a history that opens so: the summary of its entries; why the text is none,
-- before anything of it is judged; then the modulus that it names, where that isn't the opening's; or which entry is
-- the first that isn't allowed where it stands. Want of memory, or a reader that failed, may stand in place of any
-- answer
abbrev pub IsVerdict : {L : Type 0} → App L → (List ℕ → Option L) → Configuration L → List ℕ
    → Result Summary ReaderFault → Type 0
IsVerdict app from_text c text (Ok s) =
    (es : List Entry) × IsReadAs text (Ok (c.modulus, es)) × IsSummary app from_text c es s
IsVerdict app from_text c text (Err (reader.OtherModulus m)) =
    (es : List Entry) × IsReadAs text (Ok (m, es)) × (m ≢ c.modulus)
IsVerdict app from_text c text (Err (reader.Entries (NotEnabledAt position))) =
    (es : List Entry) × IsReadAs text (Ok (c.modulus, es)) × IsFirstRefused app from_text c es position
IsVerdict app from_text c text (Err (reader.Entries verify.NoMemory)) = ⊤
IsVerdict app from_text c text (Err (reader.Text book.NoMemory)) = ⊤
IsVerdict app from_text c text (Err (reader.Text book.ReadFailed)) = ⊤
IsVerdict app from_text c text (Err (reader.Text f)) = IsReadAs text (Err f)

-- the same, with the configuration that the entries leave
abbrev pub IsResumption : {P L : Type 0} → App L → (List ℕ → Option L) → Configuration L → List ℕ
    → Result (Resumed P L) ReaderFault → Type 0
IsResumption app from_text c text (Ok r) =
    (es : List Entry) × IsReadAs text (Ok (c.modulus, es)) × IsResumed app from_text c es r.config r.summary
IsResumption app from_text c text (Err f) = IsVerdict app from_text c text (Err f)

-- what entries come to that open so: what they leave, or which of them isn't allowed where it stands
abbrev pub IsEnd : {P L : Type 0} → App L → (List ℕ → Option L) → Configuration L → List Entry
    → Result (Resumed P L) (JudgeFault P L) → Type 0
IsEnd app from_text c es (Ok r) = IsResumed app from_text c es r.config r.summary
IsEnd app from_text c es (Err (judge.Refused r)) = IsRefusal app from_text c es r.position r.entry r.config
IsEnd app from_text c es (Err judge.NoMemory) = ⊤
IsEnd app from_text c es (Err (judge.Text f)) = ⊥
IsEnd app from_text c es (Err (judge.OtherModulus m)) = ⊥

-- the fault without the configuration that an entry is refused in
abbrev pub reader_fault_of : {P L : Type 0} → JudgeFault P L → ReaderFault
reader_fault_of (judge.Text f) = reader.Text f
reader_fault_of (judge.OtherModulus m) = reader.OtherModulus m
reader_fault_of (judge.Refused r) = reader.Entries (NotEnabledAt r.position)
reader_fault_of judge.NoMemory = reader.Entries verify.NoMemory

-- the verdict on this part of the entries, with the configuration that they leave, or with the entry that isn't allowed
-- and the configuration there
abbrev pub IsJudgementOf : {P L : Type 0} → (List Entry → List Entry) → App L → (List ℕ → Option L) → Configuration L
    → List ℕ → Result (Resumed P L) (JudgeFault P L) → Type 0
IsJudgementOf part app from_text c text (Ok r) =
    (es : List Entry) × IsReadAs text (Ok (c.modulus, es)) × IsResumed app from_text c (part es) r.config r.summary
IsJudgementOf part app from_text c text (Err (judge.Refused r)) =
    (es : List Entry) × IsReadAs text (Ok (c.modulus, es))
    × IsRefusal app from_text c (part es) r.position r.entry r.config
IsJudgementOf part app from_text c text (Err f) = IsVerdict app from_text c text (Err (reader_fault_of f))

-- that on all entries
abbrev pub IsJudgement : {P L : Type 0} → App L → (List ℕ → Option L) → Configuration L → List ℕ
    → Result (Resumed P L) (JudgeFault P L) → Type 0
IsJudgement = IsJudgementOf (λ es. es)

-- that on the first n of them: the others are read, and not judged
abbrev pub IsJudgementOfFirst : {P L : Type 0} → ℕ → App L → (List ℕ → Option L) → Configuration L → List ℕ
    → Result (Resumed P L) (JudgeFault P L) → Type 0
IsJudgementOfFirst n = IsJudgementOf (take n)

-- what an answer tells: how many entries there are, and their reports, or the fault. Want of memory, and a reader
-- that failed, tell nothing of a text
abbrev pub verdict_of : Result Summary ReaderFault → Option (Result (ℕ × List Report) ReaderFault)
verdict_of (Ok s) = Some (Ok (s.entries, s.reports.items))
verdict_of (Err (reader.Entries verify.NoMemory)) = None
verdict_of (Err (reader.Text book.NoMemory)) = None
verdict_of (Err (reader.Text book.ReadFailed)) = None
verdict_of (Err fault) = Some (Err fault)
