use Rattle.std.proofs.Common.{[], append-nil, subst}
use Rattle.std.proofs.lemmas.Result.{on_err_weaker, on_ok_weaker}
use Rattle.applications.specs.Meaning.{meaning_of}
use Rattle.live_session.specs.Progress.{IsCut}
use Rattle.live_session.proofs.Taken.{cut_within, last_taken}
use Rattle.live_session.proofs.session.Session.end.Goals as goal

pub returns-in-Ok-clause-done : goal.returns-in-Ok-clause-done
returns-in-Ok-clause-done g c =
    let m =
    meaning_of g.P.Application.app g.P.Application.text g.P.Application.from_text g.P.Application.names
    g.P.Invariant.counts in
    on_ok_weaker c.leave.result
    (λ done s given at. let (line, within) = at in
    done s given
    (last_taken m s (g.H.Write.contents c.args.log.now) (g.W.Write.contents c.args.out.now) given line c.in-Ok.field-0
    c.args.self.now c.take_partial.new.self (c.in-Ok.ensures.taken line within.front) within)) c.leave.ensures.done

pub returns-in-Ok-clause-cut : goal.returns-in-Ok-clause-cut
returns-in-Ok-clause-cut g c =
    let m =
    meaning_of g.P.Application.app g.P.Application.text g.P.Application.from_text g.P.Application.names
    g.P.Invariant.counts in
    on_err_weaker c.leave.result
    (λ cut s given at. let (line, within) = at in
    cut s given
    (last_taken m s (g.H.Write.contents c.args.log.now) (g.W.Write.contents c.args.out.now) given line c.in-Ok.field-0
    c.args.self.now c.take_partial.new.self (c.in-Ok.ensures.taken line within.front) within)) c.leave.ensures.cut

pub returns-in-Err-clause-cut : goal.returns-in-Err-clause-cut
returns-in-Err-clause-cut g c s given at =
    let m =
    meaning_of g.P.Application.app g.P.Application.text g.P.Application.from_text g.P.Application.names
    g.P.Invariant.counts in
    let (line, within) = at in
    let log = g.H.Write.contents c.args.log.now in
    let out = g.W.Write.contents c.args.out.now in
    subst (λ t. IsCut m s t log out) (append-nil given) (cut_within m s log out given line [] c.args.self.now within)
