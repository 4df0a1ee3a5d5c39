use Rattle.std.proofs.Common.{rules, ◌≡◌, ◌∙◌, refl}
use Rattle.std.proofs.lemmas.Result.{IfOk-weaker}
use Rattle.applications.specs.Meaning.{meaning_of}
use Rattle.live_session.proofs.Questions.{front_taken}
use Rattle.live_session.proofs.session.Session.take_partial.Goals as goal

pub returns-clause-taken : goal.returns-clause-taken
returns-clause-taken g c =
    let m =
    meaning_of g.P.Application.app g.P.Application.text g.P.Application.from_text g.P.Application.names
    g.P.Invariant.counts in
    let same : c.deref.result.now ≡ c.args.self.now.partial.items = search rules in
    IfOk-weaker c.take_text.result _ _
    (λ ends taken line front. front_taken m _ line ends c.args.self.now _ c.take_text.new.self (same ∙ front) refl taken)
    c.take_text.ensures.taken
