-- What the reader gave was read, and all its entries are kept.
use Rattle.std.proofs.Common.{ℕ, List, []}
use Rattle.std.specs.Io.KnownBytes.{Consumes}
use Rattle.history.specs.Reading.{HasRead}
use Rattle.history.proofs.read.read_book.Given as goal

abbrev pub invariant-loop : goal.invariant-loop
invariant-loop g l =
    (given : List ℕ) × Consumes (g.R.Read.remaining l.fn.reader) (g.R.Read.remaining l.reader) given
    × HasRead l.reading [] given
