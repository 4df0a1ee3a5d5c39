use Rattle.std.proofs.Common.{◌++◌, arith, refl}
use Rattle.std.proofs.lemmas.Result.{IfOk-weaker, on_err_weaker}
use Rattle.applications.specs.Meaning.{meaning_of}
use Rattle.history.specs.HistoryText.{ended}
use Rattle.live_session.proofs.LineBreaks.{rest_unbroken}
use Rattle.live_session.proofs.Taken.{begun_comes, begun_cut, begun_ends_it, begun_goes_on, begun_on, cut_before}
use Rattle.live_session.proofs.session.Session.take_bytes.Goals as goal

pub take_lines-requires-in-Ok-false-clause-few : goal.take_lines-requires-in-Ok-false-clause-few
take_lines-requires-in-Ok-false-clause-few g c κs within =
    let number = c.in-Ok-false.ensures.number in
    let shorter = c.in-Some.ensures.shorter in
    let few = c.requires in
    omega (arith, number, shorter, few)

pub returns-in-Ok-clause-ok : goal.returns-in-Ok-clause-ok
returns-in-Ok-clause-ok g c s given at =
    let m =
    meaning_of g.P.Application.app g.P.Application.text g.P.Application.from_text g.P.Application.names
    g.P.Invariant.counts in
    let (line, within) = at in
    let old = c.args.self.now in
    begun_on m s (g.H.Write.contents c.args.log.now) (g.W.Write.contents c.args.out.now) given line c.args.bytes.now old
    (record {
      config = old.config;
      room = old.room;
      number = old.number;
      partial = c.go_on.new.kept;
      batch = old.batch;
    })
    (rest_unbroken c.args.bytes.now c.in-None.ensures.only) (c.in-Ok.ensures line within.front) refl refl refl refl within

pub returns-in-Err-clause-cut : goal.returns-in-Err-clause-cut
returns-in-Err-clause-cut g c s given more at =
    let m =
    meaning_of g.P.Application.app g.P.Application.text g.P.Application.from_text g.P.Application.names
    g.P.Invariant.counts in
    let (line, within) = at in
    cut_before m s (g.H.Write.contents c.args.log.now) (g.W.Write.contents c.args.out.now) given line c.args.bytes.now
    more c.args.self.now within

pub returns-in-Ok-true-clause-ok : goal.returns-in-Ok-true-clause-ok
returns-in-Ok-true-clause-ok g c s given at =
    let m =
    meaning_of g.P.Application.app g.P.Application.text g.P.Application.from_text g.P.Application.names
    g.P.Invariant.counts in
    let (line, within) = at in
    begun_ends_it m s (g.H.Write.contents c.args.log.now) (g.W.Write.contents c.args.out.now) given c.args.bytes.now
    c.in-Some.end.now c.in-Some.after.now c.in-Some.ensures.found line c.in-Ok-true.field-0 c.args.self.now
    c.end_partial.new.self c.in-Ok-true.field-0-test (c.in-Ok-true.ensures.taken line within.front) within

pub returns-in-Ok-false-clause-ok : goal.returns-in-Ok-false-clause-ok
returns-in-Ok-false-clause-ok g c =
    let m =
    meaning_of g.P.Application.app g.P.Application.text g.P.Application.from_text g.P.Application.names
    g.P.Invariant.counts in
    let log = g.H.Write.contents c.args.log.now in
    let out = g.W.Write.contents c.args.out.now in
    IfOk-weaker c.take_lines-in-Ok-false.result _ _
    (λ ends come s given at. let (line, within) = at in
    begun_comes m s log out given c.args.bytes.now c.in-Some.end.now c.in-Some.after.now c.in-Some.ensures.found ends
    c.take_lines-in-Ok-false.new.self (g.H.Write.contents c.take_lines-in-Ok-false.new.log) (g.W.Write.contents c.take_lines-in-Ok-false.new.out)
    (come s (given ++ ended c.in-Some.end.now)
    (begun_goes_on m s log out given c.args.bytes.now c.in-Some.end.now c.in-Some.after.now c.in-Some.ensures.found line
    c.in-Ok-false.field-0 c.args.self.now c.end_partial.new.self c.in-Ok-false.field-0-test
    (c.in-Ok-false.ensures.taken line within.front) c.in-Ok-false.ensures.partial within))) c.take_lines-in-Ok-false.ensures.ok

pub returns-in-Ok-false-clause-cut : goal.returns-in-Ok-false-clause-cut
returns-in-Ok-false-clause-cut g c =
    let m =
    meaning_of g.P.Application.app g.P.Application.text g.P.Application.from_text g.P.Application.names
    g.P.Invariant.counts in
    let log = g.H.Write.contents c.args.log.now in
    let out = g.W.Write.contents c.args.out.now in
    on_err_weaker c.take_lines-in-Ok-false.result
    (λ cut s given more at. let (line, within) = at in
    begun_cut m s (g.H.Write.contents c.take_lines-in-Ok-false.new.log) (g.W.Write.contents c.take_lines-in-Ok-false.new.out) given
    c.args.bytes.now c.in-Some.end.now c.in-Some.after.now more c.in-Some.ensures.found
    (cut s (given ++ ended c.in-Some.end.now) more
    (begun_goes_on m s log out given c.args.bytes.now c.in-Some.end.now c.in-Some.after.now c.in-Some.ensures.found line
    c.in-Ok-false.field-0 c.args.self.now c.end_partial.new.self c.in-Ok-false.field-0-test
    (c.in-Ok-false.ensures.taken line within.front) c.in-Ok-false.ensures.partial within))) c.take_lines-in-Ok-false.ensures.cut

pub returns-in-Err-end_partial-clause-cut : goal.returns-in-Err-end_partial-clause-cut
returns-in-Err-end_partial-clause-cut g c s given more at =
    let m =
    meaning_of g.P.Application.app g.P.Application.text g.P.Application.from_text g.P.Application.names
    g.P.Invariant.counts in
    let (line, within) = at in
    cut_before m s (g.H.Write.contents c.args.log.now) (g.W.Write.contents c.args.out.now) given line c.args.bytes.now
    more c.args.self.now within
