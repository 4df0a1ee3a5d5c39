-- What the reader gave was read, and its entries were played and are kept no longer.
use Rattle.std.proofs.Common.{◌≡◌, ◌≤◌, ℕ, List, [], length, take}
use Rattle.std.specs.Io.KnownBytes.{Consumes}
use Rattle.history.specs.declared.entry.Entry.{Entry}
use Rattle.history.specs.Played.{HasVerified}
use Rattle.history.specs.Reading.{HasRead}
use Rattle.history.proofs.verification.judge_first.Given as goal

abbrev pub invariant-loop : goal.invariant-loop
invariant-loop g l =
    (given : List ℕ) × (es : List Entry)
    × Consumes (g.R.Read.remaining l.fn.reader) (g.R.Read.remaining l.reader) given
    × HasRead l.reading es given × (l.reading.lines.entries.items ≡ [])
    × HasVerified g.P.Application.app g.P.Application.from_text l.fn.opening (take l.fn.most es) l.verifier
    × (l.played ≡ length (take l.fn.most es)) × (l.played ≤ l.fn.most)
