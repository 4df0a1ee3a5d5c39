-- The nodes before the index were told.
use Rattle.std.proofs.Common.{take}
use Rattle.std.specs.List.{flat_map}
use Rattle.std.specs.Io.KnownBytes.{Appends}
use Rattle.applications.specs.Meaning.{meaning_of}
use Rattle.script_replay.specs.Output.{newest_line}
use Rattle.script_replay.proofs.show.show_newest.Given as goal

abbrev pub invariant-loop-node : goal.invariant-loop-node
invariant-loop-node g l =
    Appends (g.W.Write.contents l.initial.out) (g.W.Write.contents l.out)
    (flat_map
    (newest_line
    (meaning_of g.P.Application.app g.P.Application.text g.P.Application.from_text g.P.Application.names
    g.P.Invariant.counts)
    l.config) (take l.node-index l.config.graph.nodes))
