use Rattle.std.proofs.Common.{Err, ap}
use Rattle.applications.specs.Meaning.{meaning_of}
use Rattle.snapshots.proofs.ItemWords.{no_local, no_node}
use Rattle.snapshots.proofs.line.read_node.Goals as goal

pub returns-in_default : goal.returns-in_default
returns-in_default g c =
    let m =
    meaning_of g.P.Application.app g.P.Application.text g.P.Application.from_text g.P.Application.names
    g.P.Invariant.counts in
    no_node m c.args.number c.args.text.now c.in_default.ensures.only

pub returns-in-Err-BadLocal : goal.returns-in-Err-BadLocal
returns-in-Err-BadLocal g c =
    let m =
    meaning_of g.P.Application.app g.P.Application.text g.P.Application.from_text g.P.Application.names
    g.P.Invariant.counts in
    no_local m c.args.number c.args.text.now c.in-Some.local.now c.in-Some.id c.in-Some.tree c.in-Some.wave
    c.in-Some.ensures.found (c.in-Err-BadLocal.ensures.bad (ap (λ f. Err f) c.in-Err-BadLocal.field-0-is))
