use Rattle.applications.specs.Meaning.{meaning_of}
use Rattle.snapshots.proofs.ItemWords.{line_found, line_only}
use Rattle.snapshots.proofs.line.read_item.Goals as goal

pub returns-clause-found : goal.returns-clause-found
returns-clause-found g c =
    let m =
    meaning_of g.P.Application.app g.P.Application.text g.P.Application.from_text g.P.Application.names
    g.P.Invariant.counts in
    line_found m c.args.number c.args.line.now c.read_words.result c.read_words.ensures

pub returns-clause-only : goal.returns-clause-only
returns-clause-only g c =
    let m =
    meaning_of g.P.Application.app g.P.Application.text g.P.Application.from_text g.P.Application.names
    g.P.Invariant.counts in
    line_only m c.args.number c.args.line.now c.read_words.result c.read_words.ensures
