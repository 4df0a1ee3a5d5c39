-- The links of the nodes before the index were written.
use Rattle.std.proofs.Common.{take}
use Rattle.std.specs.List.{flat_map}
use Rattle.std.specs.Io.KnownBytes.{Appends}
use Rattle.script_replay.specs.Output.{link_line}
use Rattle.script_replay.specs.Parts.{links_from}
use Rattle.script_replay.proofs.snapshot.put_all_links.Given as goal

abbrev pub invariant-loop-at : goal.invariant-loop-at
invariant-loop-at g l =
    Appends (g.W.Write.contents l.initial.out) (g.W.Write.contents l.out)
    (flat_map (λ i. flat_map link_line (links_from l.topology i)) (take l.at-index l.topology.nodes))
