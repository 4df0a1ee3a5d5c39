use Rattle.std.specs.Prelude.{codes}
use Rattle.std.proofs.Common.{◌∷◌, ◌∙◌, ap}
use Rattle.reset_model.specs.Words.{words_of}
use Rattle.reset_model.proofs.EventLines.{words_of-decimal}
use Rattle.applications.specs.Meaning.{meaning_of}
use Rattle.snapshots.proofs.ItemWords.{no_version}
use Rattle.snapshots.proofs.line.read_version.Goals as goal

pub returns-in_err-version : goal.returns-in_err-version
returns-in_err-version g c =
    let m =
    meaning_of g.P.Application.app g.P.Application.text g.P.Application.from_text g.P.Application.names
    g.P.Invariant.counts in
    rw c.from_residual.ensures
    (no_version m c.args.number c.args.text.now
    (λ version first small is. c.in_err-version.ensures.only version small is))

pub returns : goal.returns
returns g c = (
  c.if-number-ne1.false,
  c.in_ok-version.ensures.small,
  ap (λ ws. codes "reset-snapshot" ∷ ws)
      (ap words_of c.in_ok-version.ensures.found
      ∙ words_of-decimal c.in_ok-version.version c.in_ok-version.ensures.small),
)
