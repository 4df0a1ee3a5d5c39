-- The links with the neighbours before the index were written.
use Rattle.std.specs.Prelude.{slice_index}
use Rattle.std.proofs.Common.{take}
use Rattle.std.specs.List.{flat_map}
use Rattle.std.specs.Io.KnownBytes.{Appends}
use Rattle.script_replay.specs.Parts.{line_from}
use Rattle.script_replay.proofs.snapshot.put_links_from.Given as goal

abbrev pub invariant-loop-near : goal.invariant-loop-near
invariant-loop-near g l =
    Appends (g.W.Write.contents l.initial.out) (g.W.Write.contents l.out)
    (flat_map (λ n. line_from l.at (slice_index l.topology.ids n)) (take l.near-index l.near-items))
