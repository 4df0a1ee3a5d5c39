use Rattle.std.specs.Prelude.{codes}
use Rattle.std.proofs.Common.{◌≢◌, rules}
use Rattle.applications.specs.Meaning.{meaning_of}
use Rattle.snapshots.proofs.ItemWords.{no_link}
use Rattle.snapshots.proofs.line.read_link.Goals as goal

pub returns-in_err-a : goal.returns-in_err-a
returns-in_err-a g c =
    let m =
    meaning_of g.P.Application.app g.P.Application.text g.P.Application.from_text g.P.Application.names
    g.P.Invariant.counts in
    let other : c.args.text.now ≢ codes "-" = search rules in
    rw c.from_residual.ensures (no_link m c.args.number c.args.text.now other c.in_err-a.ensures.only)
