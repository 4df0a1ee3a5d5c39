use Rattle.std.proofs.Common.{◌++◌, refl}
use Rattle.std.proofs.lemmas.Result.{IfOk-weaker}
use Rattle.applications.specs.Meaning.{meaning_of}
use Rattle.live_session.proofs.Questions.{same_taken}
use Rattle.live_session.proofs.session.Session.end_partial.Goals as goal

pub returns-in-Ok-clause-taken : goal.returns-in-Ok-clause-taken
returns-in-Ok-clause-taken g c =
    let m =
    meaning_of g.P.Application.app g.P.Application.text g.P.Application.from_text g.P.Application.names
    g.P.Invariant.counts in
    IfOk-weaker c.take_partial.result _ _
    (λ ends taken line front.
    same_taken m (line ++ c.args.bytes.now) ends c.args.self.now _ c.take_partial.new.self refl
    (taken (line ++ c.args.bytes.now) (c.in-Ok.ensures line front))) c.take_partial.ensures.taken
