-- The nodes before the index were shown.
use Rattle.std.proofs.Common.{take}
use Rattle.std.specs.List.{flat_map}
use Rattle.std.specs.Io.KnownBytes.{Appends}
use Rattle.applications.specs.Meaning.{meaning_of}
use Rattle.script_replay.specs.Output.{shown}
use Rattle.script_replay.proofs.show.show_all.Given as goal

abbrev pub invariant-loop-id : goal.invariant-loop-id
invariant-loop-id g l =
    Appends (g.W.Write.contents l.initial.out) (g.W.Write.contents l.out)
    (flat_map
    (shown
    (meaning_of g.P.Application.app g.P.Application.text g.P.Application.from_text g.P.Application.names
    g.P.Invariant.counts)
    l.config) (take l.id-index l.config.graph.nodes))
