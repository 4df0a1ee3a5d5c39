use Rattle.std.proofs.Common.{ℕ, List, length, Result, Ok, Err, ap, subst, ◌∙◌}
use Rattle.history.specs.declared.entry.Entry.{Entry}
use Rattle.history.specs.declared.text.BookFault.{BookFault}
use Rattle.history.specs.HistoryText.{IsReadAs}
use Rattle.reset_service.proofs.shown.entry_count.Goals as goal

abbrev count_of : Result (ℕ × List Entry) BookFault → ℕ
count_of (Ok read) = length read.1
count_of (Err f) = 0

pub returns-in-Ok : goal.returns-in-Ok
returns-in-Ok c = λ m entries other.
    let read = c.in-Ok.ensures.ok in
    let book = c.in-Ok.book in
    let is : IsReadAs c.args.text.now (Ok (book.modulus, book.entries.items)) =
    subst (λ text. IsReadAs text (Ok (book.modulus, book.entries.items))) read.1 read.2 in
    ap length c.as_slice.ensures.value
    ∙ ap count_of (c.one_reading_a_text.ensures c.args.text.now (Ok (book.modulus, book.entries.items)) (Ok (m, entries)) is other)
