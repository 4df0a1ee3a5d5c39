-- The text is what the reader gave.
use Rattle.std.proofs.Common.{◌≡◌, ◌≤◌, ◌-◌, length}
use Rattle.std.specs.Io.KnownBytes.{Consumes}
use Rattle.script_replay.specs.declared.input.TheConstants.{READ_LIMIT}
use Rattle.script_replay.proofs.input.read_text.Given as goal

abbrev pub invariant-loop-chunk : goal.invariant-loop-chunk
invariant-loop-chunk g l =
    (length l.text.items ≤ READ_LIMIT)
    × Consumes (g.R.Read.remaining l.fn.reader) (g.R.Read.remaining l.reader) l.text.items × (length l.chunk ≡ 8192)

abbrev pub decreases-loop-chunk : goal.decreases-loop-chunk
decreases-loop-chunk g l = READ_LIMIT - length l.text.items
