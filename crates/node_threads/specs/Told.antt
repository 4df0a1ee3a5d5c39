-- How the receipts of entries are told from the reports of a book, without playing the entries again.
use Rattle.std.specs.Prelude.{ℕ, ◌+◌, ◌==◌, if◌then◌else◌, List, [], ◌∷◌, ◌++◌, Option, Some, None}
use Rattle.std.specs.Option.{option_and_then}
use Rattle.reset_model.specs.declared.event.Event.{Event}
use Rattle.reset_model.specs.declared.step.Reply.{Reply}
use Rattle.reset_model.specs.declared.step.Reply.TheVariants.{Applied, Complete}
use Rattle.history.specs.declared.entry.Entry.{Entry}
use Rattle.history.specs.declared.entry.Entry.TheVariants.{Step, Disturbed}
use Rattle.history.specs.declared.entry.Receipt.{Receipt}
use Rattle.history.specs.declared.entry.Report.{Report}
use Rattle.history.specs.Book.{entry_at}

-- the event of an entry that is a step
abbrev pub step_of : Entry → Option Event
step_of (Step e) = Some e
step_of (Disturbed f) = None

-- the event of the step at this position, which counts from 1
abbrev pub step_at : List Entry → ℕ → Option Event
step_at es position = option_and_then step_of (entry_at es position)

-- the reply at this position, where these reports are left: that of the first of them, if it is of this position
abbrev pub reply_told : List Report → ℕ → Reply
reply_told [] position = Applied
reply_told (r ∷ rs) position = if r.finished == position then Complete r.number else Applied

-- the reports that are left after this position
abbrev pub left_after : List Report → ℕ → List Report
left_after [] position = []
left_after (r ∷ rs) position = if r.finished == position then rs else r ∷ rs

-- the receipt of the entry at this position
abbrev pub receipt_told : List Report → ℕ → Entry → List Receipt
receipt_told rs position (Step e) = record { position = position; event = e; reply = reply_told rs position } ∷ []
receipt_told rs position (Disturbed f) = []

-- the reports that are left after the entry at this position
abbrev pub left_by : List Report → ℕ → Entry → List Report
left_by rs position (Step e) = left_after rs position
left_by rs position (Disturbed f) = rs

-- the receipts of entries, where so many came before and these reports are left
abbrev pub receipts_told : List Report → ℕ → List Entry → List Receipt
receipts_told rs before [] = []
receipts_told rs before (e ∷ es) =
    receipt_told rs (before + 1) e ++ receipts_told (left_by rs (before + 1) e) (before + 1) es
