-- The ids before the index were written.
use Rattle.std.proofs.Common.{take}
use Rattle.std.specs.List.{flat_map}
use Rattle.std.specs.Io.KnownBytes.{Appends}
use Rattle.script_replay.specs.Output.{spaced}
use Rattle.script_replay.proofs.rows.put_ids.Given as goal

abbrev pub invariant-loop-id : goal.invariant-loop-id
invariant-loop-id g l =
    Appends (g.W.Write.contents l.initial.out) (g.W.Write.contents l.out) (flat_map spaced (take l.id-index l.ids))
