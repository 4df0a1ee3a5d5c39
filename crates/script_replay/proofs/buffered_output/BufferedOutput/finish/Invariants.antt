-- What was taken stays taken, and each turn holds less.
use Rattle.std.proofs.Common.{length}
use Rattle.std.specs.Io.KnownBytes.{Keeps}
use Rattle.script_replay.specs.Buffering.{buffered_contents, held_bytes}
use Rattle.script_replay.proofs.buffered_output.BufferedOutput.finish.Given as goal

abbrev pub invariant-loop-self : goal.invariant-loop-self
invariant-loop-self g l =
    Keeps (buffered_contents (g.W.Write.contents) l.fn.self) (buffered_contents (g.W.Write.contents) l.self)

abbrev pub decreases-loop-self : goal.decreases-loop-self
decreases-loop-self g l = length (held_bytes l.self)
