-- The lines of the nodes before the index were written.
use Rattle.std.proofs.Common.{take}
use Rattle.std.specs.Io.KnownBytes.{Appends}
use Rattle.std.specs.List.{flat_map}
use Rattle.applications.specs.Meaning.{meaning_of}
use Rattle.reset_service.specs.Reasons.{line_there}
use Rattle.reset_service.proofs.reasons.put_nodes.Given as goal

abbrev pub invariant-loop-id : goal.invariant-loop-id
invariant-loop-id g l =
    let m =
    meaning_of g.P.Application.app g.P.Application.text g.P.Application.from_text g.P.Application.names
    g.P.Invariant.counts in
    Appends (g.W.Write.contents l.initial.out) (g.W.Write.contents l.out)
    (flat_map (line_there m l.config) (take l.id-index l.ids))
