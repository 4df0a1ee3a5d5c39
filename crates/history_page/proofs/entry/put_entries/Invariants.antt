-- The lines of the entries before the index were written, and what fails after them is known.
use Rattle.std.proofs.Common.{◌≡◌}
use Rattle.history_page.specs.Known.{IsKnown}
use Rattle.history_page.proofs.PutEntries.{ArePut}
use Rattle.history_page.proofs.entry.put_entries.Given as goal

abbrev pub invariant-loop-entry : goal.invariant-loop-entry
invariant-loop-entry g l =
    ArePut g.P.Application.app g.P.Application.text g.P.Application.from_text l.fn.config l.entries
    (g.W.Write.contents l.initial.out) (g.W.Write.contents l.out) l.entry-index l.config l.rest
    × (l.place ≡ l.entry-index) × IsKnown g.P.Application.app l.config l.known
