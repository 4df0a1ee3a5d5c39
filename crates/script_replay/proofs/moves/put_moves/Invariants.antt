-- The lines of the moves before the index were written.
use Rattle.std.proofs.Common.{take}
use Rattle.std.specs.Io.KnownBytes.{Appends}
use Rattle.script_replay.specs.Output.{moves_text}
use Rattle.script_replay.proofs.moves.put_moves.Given as goal

abbrev pub invariant-loop-event : goal.invariant-loop-event
invariant-loop-event g l =
    Appends (g.W.Write.contents l.initial.out) (g.W.Write.contents l.out) (moves_text (take l.event-index l.moves))
