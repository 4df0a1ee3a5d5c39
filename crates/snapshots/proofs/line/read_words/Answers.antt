use Rattle.std.specs.Prelude.{codes}
use Rattle.std.proofs.Common.{◌≡◌, ◌≢◌, ℕ, List, ◌∷◌, ◌∙◌, ap, rules, subst, sym}
use Rattle.reset_model.specs.Words.{words_of}
use Rattle.applications.specs.Meaning.{meaning_of}
use Rattle.snapshots.specs.Words.{AreWordsOf, IsReadOf}
use Rattle.snapshots.proofs.ItemWords.{no_command}
use Rattle.snapshots.proofs.line.read_words.Goals as goal

pub returns-then-eq : goal.returns-then-eq
returns-then-eq g c =
    let m =
    meaning_of g.P.Application.app g.P.Application.text g.P.Application.from_text g.P.Application.names
    g.P.Invariant.counts in
    let named : c.in-Some.command.now ≡ codes "reset-snapshot" = search rules in
    let P : List (List ℕ) → Type 0 = λ ws. IsReadOf m c.args.number ws c.read_version.result in
    subst P (sym (c.in-Some.ensures.found ∙ ap (λ w. w ∷ words_of c.in-Some.rest.now) named)) c.read_version.ensures

pub returns-in_default-command : goal.returns-in_default-command
returns-in_default-command g c = λ item h.
    let m =
    meaning_of g.P.Application.app g.P.Application.text g.P.Application.from_text g.P.Application.names
    g.P.Invariant.counts in
    let node : c.in-Some.command.now ≢ codes "node" = search rules in
    let link : c.in-Some.command.now ≢ codes "link" = search rules in
    let version : c.in-Some.command.now ≢ codes "reset-snapshot" = search rules in
    let P : List (List ℕ) → Type 0 = λ ws. AreWordsOf m c.args.number ws item in
    no_command m c.args.number c.in-Some.command.now (words_of c.in-Some.rest.now) node link version item
    (subst P c.in-Some.ensures.found h)
