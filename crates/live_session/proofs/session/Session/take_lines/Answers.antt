use Rattle.std.proofs.Common.{[], ◌++◌, ◌∙◌, ap, arith, refl}
use Rattle.applications.specs.Meaning.{meaning_of}
use Rattle.history.specs.HistoryText.{ended}
use Rattle.script_replay.specs.Parts.{next_text}
use Rattle.live_session.proofs.LineBreaks.{line_with_feed}
use Rattle.live_session.proofs.Taken.{lines_begin, lines_cut_commit, lines_cut_short, lines_end, lines_go_on, lines_rest}
use Rattle.live_session.proofs.Taken.{split_on, written_within}
use Rattle.live_session.proofs.session.Session.take_lines.Goals as goal

pub loop-line-init : goal.loop-line-init
loop-line-init g c = ([], refl, omega arith, c.requires.none, λ s given within. within)

pub take_line-requires-clause-few : goal.take_line-requires-clause-few
take_line-requires-clause-few g c κs within =
    let (passed, split, bound, fresh, on) = c.loop-line.invariant in
    let shorter = c.in-Some.ensures.shorter in
    let few = c.requires.few in
    omega (arith, bound, shorter, few)

pub take_line-requires-clause-whole : goal.take_line-requires-clause-whole
take_line-requires-clause-whole g c κs within =
    line_with_feed c.loop-line.rest.now (next_text c.in-Some.line) c.in-Some.after.now c.in-Some.ensures.found

pub returns-in-Ok-true-clause-ok : goal.returns-in-Ok-true-clause-ok
returns-in-Ok-true-clause-ok g c s given at =
    let m =
    meaning_of g.P.Application.app g.P.Application.text g.P.Application.from_text g.P.Application.names
    g.P.Invariant.counts in
    let (passed, split, bound, fresh, on) = c.loop-line.invariant in
    let (line, within) = at in
    let start = g.H.Write.contents c.args.log.now in
    let log = g.H.Write.contents c.loop-line.log in
    let out = g.W.Write.contents c.loop-line.out in
    lines_end m s log out given passed c.loop-line.rest.now c.args.bytes.now split (next_text c.in-Some.line)
    c.in-Some.after.now c.in-Some.ensures.found c.in-Ok-true.field-0 c.loop-line.self c.take_line.new.self
    c.in-Ok-true.field-0-test c.in-Ok-true.ensures.taken
    (on s given
    (lines_begin m s start (g.W.Write.contents c.args.out.now) given line c.args.self.now c.requires.none within))

pub returns-in-Err-clause-cut : goal.returns-in-Err-clause-cut
returns-in-Err-clause-cut g c s given more at =
    let m =
    meaning_of g.P.Application.app g.P.Application.text g.P.Application.from_text g.P.Application.names
    g.P.Invariant.counts in
    let (passed, split, bound, fresh, on) = c.loop-line.invariant in
    let (line, within) = at in
    lines_cut_short m s (g.H.Write.contents c.loop-line.log) (g.W.Write.contents c.loop-line.out) given passed
    c.loop-line.rest.now c.args.bytes.now split more c.loop-line.self
    (on s given
    (lines_begin m s (g.H.Write.contents c.args.log.now) (g.W.Write.contents c.args.out.now) given line c.args.self.now
    c.requires.none within))

pub returns-in-Err-commit-clause-cut : goal.returns-in-Err-commit-clause-cut
returns-in-Err-commit-clause-cut g c s given more at =
    let m =
    meaning_of g.P.Application.app g.P.Application.text g.P.Application.from_text g.P.Application.names
    g.P.Invariant.counts in
    let (passed, split, bound, fresh, on) = c.loop-line.invariant in
    let (line, within) = at in
    let log = g.H.Write.contents c.loop-line.log in
    let out = g.W.Write.contents c.loop-line.out in
    let text = next_text c.in-Some.line in
    let next = c.in-Some.after.now in
    let found = c.in-Some.ensures.found in
    lines_cut_commit m s log out given (passed ++ ended text) next c.args.bytes.now
    (split_on passed c.loop-line.rest.now c.args.bytes.now text next split found) more
    (g.H.Write.contents c.commit.new.log) (g.W.Write.contents c.commit.new.out) c.take_line.new.self
    (lines_go_on m s log out given passed c.loop-line.rest.now c.args.bytes.now split text next found
    c.in-Ok-false.field-0 c.loop-line.self c.take_line.new.self c.in-Ok-false.field-0-test c.in-Ok-false.ensures.taken
    (ap (λ p. p.items) c.take_line.ensures.partial ∙ fresh)
    (on s given
    (lines_begin m s (g.H.Write.contents c.args.log.now) (g.W.Write.contents c.args.out.now) given line c.args.self.now
    c.requires.none within)))
    c.in-Err-commit.ensures.err

pub loop-line-smaller-in-Ok : goal.loop-line-smaller-in-Ok
loop-line-smaller-in-Ok g c = c.in-Some.ensures.shorter

pub loop-line-preserved-in-Ok : goal.loop-line-preserved-in-Ok
loop-line-preserved-in-Ok g c =
    let m =
    meaning_of g.P.Application.app g.P.Application.text g.P.Application.from_text g.P.Application.names
    g.P.Invariant.counts in
    let (passed, split, bound, fresh, on) = c.loop-line.invariant in
    let log = g.H.Write.contents c.loop-line.log in
    let out = g.W.Write.contents c.loop-line.out in
    let text = next_text c.in-Some.line in
    let next = c.in-Some.after.now in
    let found = c.in-Some.ensures.found in
    let rest = c.loop-line.rest.now in
    let shorter = c.in-Some.ensures.shorter in
    let taken = c.in-Ok-false.ensures.taken in
    let number = taken.number_is c.in-Ok-false.field-0-test in
    let still = ap (λ p. p.items) c.take_line.ensures.partial ∙ fresh in (
      passed ++ ended text,
      split_on passed rest c.args.bytes.now text next split found,
      omega (arith, bound, shorter, number),
      still,
      λ s given within.
          written_within m s log out (given ++ (passed ++ ended text)) [] (g.H.Write.contents c.commit.new.log)
          (g.W.Write.contents c.commit.new.out) c.take_line.new.self
          (record {
            config = c.take_line.new.self.config;
            room = c.take_line.new.self.room;
            number = c.take_line.new.self.number;
            partial = c.take_line.new.self.partial;
            batch = c.commit.new.self;
          })
          c.in-Ok.ensures.log c.in-Ok.ensures.out c.in-Ok.ensures.entries c.in-Ok.ensures.answers refl refl refl refl
          (lines_go_on m s log out given passed rest c.args.bytes.now split text next found c.in-Ok-false.field-0
          c.loop-line.self c.take_line.new.self c.in-Ok-false.field-0-test taken still (on s given within)),
    )

pub loop-line-smaller : goal.loop-line-smaller
loop-line-smaller g c = c.in-Some.ensures.shorter

pub loop-line-preserved : goal.loop-line-preserved
loop-line-preserved g c =
    let m =
    meaning_of g.P.Application.app g.P.Application.text g.P.Application.from_text g.P.Application.names
    g.P.Invariant.counts in
    let (passed, split, bound, fresh, on) = c.loop-line.invariant in
    let log = g.H.Write.contents c.loop-line.log in
    let out = g.W.Write.contents c.loop-line.out in
    let text = next_text c.in-Some.line in
    let next = c.in-Some.after.now in
    let found = c.in-Some.ensures.found in
    let rest = c.loop-line.rest.now in
    let shorter = c.in-Some.ensures.shorter in
    let taken = c.in-Ok-false.ensures.taken in
    let number = taken.number_is c.in-Ok-false.field-0-test in
    let still = ap (λ p. p.items) c.take_line.ensures.partial ∙ fresh in (
      passed ++ ended text,
      split_on passed rest c.args.bytes.now text next split found,
      omega (arith, bound, shorter, number),
      still,
      λ s given within. lines_go_on m s log out given passed rest c.args.bytes.now split text next found c.in-Ok-false.field-0
          c.loop-line.self c.take_line.new.self c.in-Ok-false.field-0-test taken still (on s given within),
    )

pub returns-in-Ok-go_on-clause-ok : goal.returns-in-Ok-go_on-clause-ok
returns-in-Ok-go_on-clause-ok g c s given at =
    let m =
    meaning_of g.P.Application.app g.P.Application.text g.P.Application.from_text g.P.Application.names
    g.P.Invariant.counts in
    let (passed, split, bound, fresh, on) = c.loop-line.invariant in
    let (line, within) = at in
    lines_rest m s (g.H.Write.contents c.loop-line.log) (g.W.Write.contents c.loop-line.out) given passed
    c.loop-line.rest.now c.args.bytes.now split c.loop-line.self
    (record {
      config = c.loop-line.self.config;
      room = c.loop-line.self.room;
      number = c.loop-line.self.number;
      partial = c.go_on.new.kept;
      batch = c.loop-line.self.batch;
    })
    c.in_default.ensures.only (c.in-Ok-go_on.ensures [] fresh) refl refl refl refl
    (on s given
    (lines_begin m s (g.H.Write.contents c.args.log.now) (g.W.Write.contents c.args.out.now) given line c.args.self.now
    c.requires.none within))

pub returns-in-Err-go_on-clause-cut : goal.returns-in-Err-go_on-clause-cut
returns-in-Err-go_on-clause-cut g c s given more at =
    let m =
    meaning_of g.P.Application.app g.P.Application.text g.P.Application.from_text g.P.Application.names
    g.P.Invariant.counts in
    let (passed, split, bound, fresh, on) = c.loop-line.invariant in
    let (line, within) = at in
    lines_cut_short m s (g.H.Write.contents c.loop-line.log) (g.W.Write.contents c.loop-line.out) given passed
    c.loop-line.rest.now c.args.bytes.now split more c.loop-line.self
    (on s given
    (lines_begin m s (g.H.Write.contents c.args.log.now) (g.W.Write.contents c.args.out.now) given line c.args.self.now
    c.requires.none within))
