-- What is asked of a verification beside what its history comes to: why an entry isn't allowed, and what the first
-- entries leave.
use Rattle.std.specs.Prelude.{◌≡◌, ℕ, ◌<◌, ◌≤◌, nat_lt, Bool, if◌then◌else◌, List, [], ◌++◌, codes, length, take}
use Rattle.std.specs.Prelude.{IsSome, Ok, Option, Some, None}
use Rattle.reset_model.specs.Configuration.{Configuration}
use Rattle.applications.specs.Meaning.{Meaning}
use Rattle.history.specs.Entries.{IsRefusal, replayed}
use Rattle.history.specs.HistoryText.{IsReadAs}
use Rattle.history.specs.declared.entry.Entry.{Entry}
use Rattle.history.specs.declared.entry.Report.{Report}
use Rattle.script_replay.specs.Output.{numbered, snapshot_text}
use Rattle.script_replay.specs.declared.status.Status.{Status}
use Rattle.script_replay.specs.declared.status.Status.TheVariants.{BadInput, Good, NotEnabled}
use Rattle.reset_service.specs.Reasons.{reason_text}
use Rattle.reset_service.specs.Started.{FollowUp}
use Rattle.reset_service.specs.Verified.{IsVerified, not_enabled_text, verified_text}
use Rattle.reset_service.specs.declared.asked.Question.{Question}

-- the entries that are verified: all, or the first ones
abbrev pub asked_of : Option ℕ → List Entry → List Entry
asked_of None es = es
asked_of (Some n) es = take n es

-- the line of a history that has so many entries, fewer than are asked for
abbrev pub ends_after_text : ℕ → List ℕ
ends_after_text n = numbered (codes "bad history EndsAfter ") n

-- why an entry is refused here, where it is asked
abbrev pub asked_reason : {L : Type 0} → Bool → Meaning L → Configuration L → Entry → List ℕ
asked_reason why m c entry = if why then reason_text m c entry else []

-- what a history that opens so is answered with, and the status. One that can't be judged is answered as without the
-- question, and so is one whose entries are all verified and allowed. Where it is asked what the first n entries leave, the
-- answer is the snapshot of that, or that there are fewer; and of an entry that isn't allowed where it stands, why, where
-- that is asked
pub data IsAnswered {L : Type 0} (q : Question) (m : Meaning L) (c : Configuration L) (history : List ℕ)
    (output : List ℕ × Status) : Type 0 where
  no_history : IsVerified m c history output → output.1 ≡ BadInput → IsAnswered q m c history output
  verified : q.at ≡ None → IsVerified m c history output → output.1 ≡ Good → IsAnswered q m c history output
  situated : (n : ℕ) (es : List Entry) (left : Configuration L) → q.at ≡ Some n → IsReadAs history (Ok (c.modulus, es))
      → n ≤ length es → replayed m.app m.from_text c (take n es) ≡ Some left
      → output ≡ (snapshot_text m left, Good) → IsAnswered q m c history output
  too_few : (n : ℕ) (es : List Entry) → q.at ≡ Some n → IsReadAs history (Ok (c.modulus, es)) → length es < n
      → IsSome (replayed m.app m.from_text c es) → output ≡ (ends_after_text (length es), BadInput)
      → IsAnswered q m c history output
  not_enabled : (es : List Entry) (position : ℕ) (entry : Entry) (left : Configuration L)
      → IsReadAs history (Ok (c.modulus, es))
      → IsRefusal m.app m.from_text c (asked_of q.at es) position entry left
      → output ≡ (not_enabled_text position ++ asked_reason q.why m left entry, NotEnabled)
      → IsAnswered q m c history output

abbrev pub AnswersTo : Question → List ℕ → FollowUp
AnswersTo q history L m c output = IsAnswered q m c history output

-- what so many entries that were asked for are answered with, which leave this
abbrev pub left_output : {L : Type 0} → Meaning L → ℕ → ℕ → Configuration L → List ℕ × Status
left_output m n entries left =
    if nat_lt entries n then (ends_after_text entries, BadInput) else (snapshot_text m left, Good)

-- what entries are answered with that are all allowed
abbrev pub allowed_output : {L : Type 0} → Meaning L → Option ℕ → ℕ → List Report → Configuration L → List ℕ × Status
allowed_output m None entries reports left = (verified_text entries reports, Good)
allowed_output m (Some n) entries reports left = left_output m n entries left
