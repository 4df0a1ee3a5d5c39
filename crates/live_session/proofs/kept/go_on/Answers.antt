use Rattle.std.proofs.Common.{◌≡◌, ◌∙◌, length, subst, IfOk, OnErr}
use Rattle.std.specs.Io.KnownBytes.{Appends}
use Rattle.action_tables.specs.Written.{AppendsPrefix}
use Rattle.applications.specs.Meaning.{meaning_of}
use Rattle.live_session.specs.Kept.{HasGoneOn, IsCutGoingOn, resumed_text}
use Rattle.live_session.specs.Kept.IsCutGoingOn.{within_line}
use Rattle.live_session.proofs.Keeping.{cut_going_on, gone_on}
use Rattle.live_session.proofs.kept.go_on.Goals as goal

pub returns-in-Ok-clause-done : goal.returns-in-Ok-clause-done
returns-in-Ok-clause-done g c =
    let m =
    meaning_of g.P.Application.app g.P.Application.text g.P.Application.from_text g.P.Application.names
    g.P.Invariant.counts in
    let from = c.args.resumed in
    let out = g.W.Write.contents c.args.out.now in
    let begun = g.W.Write.contents c.put_resumed-put.new.out in
    let count : c.len.result ≡ length from.summary.reports.items = c.len.ensures ∙ from.summary.reports.ok.0 in
    let wrote = subst (λ n. Appends out begun (resumed_text from.summary.entries n)) count c.in-Ok.ensures.ok in
    let line = resumed_text from.summary.entries (length from.summary.reports.items) in
    let known = g.R.Read.remaining c.args.input.now in
    let log = g.H.Write.contents c.args.log.now in
    let log' = g.H.Write.contents c.run_session.new.log in
    let out' = g.W.Write.contents c.run_session.new.out in
    subst (λ k. IfOk c.run_session.result (HasGoneOn m k from.config line known log log' out out')) c.saturating_sub-room.ensures
    (gone_on m c.saturating_sub-room.result from.config known log log' out out' c.run_session.result line
    (g.H.Write.contents c.put_resumed-put.new.log) begun c.put_resumed-put.ensures.log wrote c.run_session.ensures.done)

pub returns-in-Ok-clause-cut : goal.returns-in-Ok-clause-cut
returns-in-Ok-clause-cut g c =
    let m =
    meaning_of g.P.Application.app g.P.Application.text g.P.Application.from_text g.P.Application.names
    g.P.Invariant.counts in
    let from = c.args.resumed in
    let out = g.W.Write.contents c.args.out.now in
    let begun = g.W.Write.contents c.put_resumed-put.new.out in
    let count : c.len.result ≡ length from.summary.reports.items = c.len.ensures ∙ from.summary.reports.ok.0 in
    let wrote = subst (λ n. Appends out begun (resumed_text from.summary.entries n)) count c.in-Ok.ensures.ok in
    let line = resumed_text from.summary.entries (length from.summary.reports.items) in
    let known = g.R.Read.remaining c.args.input.now in
    let log = g.H.Write.contents c.args.log.now in
    let log' = g.H.Write.contents c.run_session.new.log in
    let out' = g.W.Write.contents c.run_session.new.out in
    subst (λ k. OnErr c.run_session.result (IsCutGoingOn m k from.config line known log log' out out')) c.saturating_sub-room.ensures
    (cut_going_on m c.saturating_sub-room.result from.config known log log' out out' c.run_session.result line
    (g.H.Write.contents c.put_resumed-put.new.log) begun c.put_resumed-put.ensures.log wrote c.run_session.ensures.cut)

pub returns-in-Err-clause-cut : goal.returns-in-Err-clause-cut
returns-in-Err-clause-cut g c =
    let from = c.args.resumed in
    let out = g.W.Write.contents c.args.out.now in
    let begun = g.W.Write.contents c.put_resumed-put.new.out in
    let count : c.len.result ≡ length from.summary.reports.items = c.len.ensures ∙ from.summary.reports.ok.0 in
    within_line c.put_resumed-put.ensures.log
    (subst (λ n. AppendsPrefix out begun (resumed_text from.summary.entries n)) count c.in-Err.ensures.err)
