use Rattle.std.proofs.Common.{ap, length}
use Rattle.applications.specs.Meaning.{meaning_of}
use Rattle.live_session.proofs.Keeping.{cut_resumed, resumed_on}
use Rattle.live_session.proofs.kept.resume_history.Goals as goal

pub returns-in-Ok-go_on-clause-done : goal.returns-in-Ok-go_on-clause-done
returns-in-Ok-go_on-clause-done g c =
    let m =
    meaning_of g.P.Application.app g.P.Application.text g.P.Application.from_text g.P.Application.names
    g.P.Invariant.counts in
    let (text, whole, past) = c.in-Ok.ensures.told in
    let (es, read, is) = past in
    resumed_on m c.args.opening c.in-Ok.resumed.config (g.F.Read.remaining c.args.past.now)
    (g.R.Read.remaining c.args.input.now) (g.H.Write.contents c.args.log.now) (g.H.Write.contents c.go_on.new.log)
    (g.W.Write.contents c.args.out.now) (g.W.Write.contents c.go_on.new.out) es c.in-Ok.resumed.summary.entries
    (length c.in-Ok.resumed.summary.reports.items) is.summary.entries (ap (λ l. length l) is.summary.reports)
    (record { text = text; whole = whole; read = read; left_is = is.left_is }) c.in-Ok-go_on.left
    c.in-Ok-go_on.ensures.done

pub returns-in-Err-go_on-clause-err : goal.returns-in-Err-go_on-clause-err
returns-in-Err-go_on-clause-err g c =
    let m =
    meaning_of g.P.Application.app g.P.Application.text g.P.Application.from_text g.P.Application.names
    g.P.Invariant.counts in
    let (text, whole, past) = c.in-Ok.ensures.told in
    let (es, read, is) = past in
    cut_resumed m c.args.opening c.in-Ok.resumed.config (g.F.Read.remaining c.args.past.now)
    (g.R.Read.remaining c.args.input.now) (g.H.Write.contents c.args.log.now) (g.H.Write.contents c.go_on.new.log)
    (g.W.Write.contents c.args.out.now) (g.W.Write.contents c.go_on.new.out) es c.in-Ok.resumed.summary.entries
    (length c.in-Ok.resumed.summary.reports.items) is.summary.entries (ap (λ l. length l) is.summary.reports)
    (record { text = text; whole = whole; read = read; left_is = is.left_is }) c.in-Err-go_on.ensures.cut
