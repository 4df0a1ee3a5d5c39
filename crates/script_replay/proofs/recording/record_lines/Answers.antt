use Rattle.std.proofs.Common.{◌≡◌, ◌≢◌, ◌+◌, ◌++◌, ◌∙◌, [], ap, arith, length, refl, rules, sym}
use Rattle.applications.specs.Meaning.{meaning_of}
use Rattle.script_replay.specs.Lines.{lines_of}
use Rattle.script_replay.specs.Recorded.{entries_of_lines}
use Rattle.script_replay.specs.declared.status.Status.TheVariants.{Good}
use Rattle.script_replay.proofs.Noting.{cut_length, noted_bad, noted_good, noted_last, noted_limit, noted_opening}
use Rattle.script_replay.proofs.Noting.{noted_room}
use Rattle.script_replay.proofs.recording.record_lines.Goals as goal

pub returns-in-Ok : goal.returns-in-Ok
returns-in-Ok g c =
    let m =
    meaning_of g.P.Application.app g.P.Application.text g.P.Application.from_text g.P.Application.names
    g.P.Invariant.counts in
    let (n, left, opening, limit, room) = c.loop-line.invariant in
    let all = entries_of_lines m c.args.book.now.config 1 (lines_of c.args.script.now) in
    let old = c.loop-line.book in
    let new = c.record_line.new.book in
    let lines = lines_of c.loop-line.rest.now in
    let later = lines_of c.in-Some.after.now in
    let line = c.in-Some.line.now in
    let noted = c.in-Ok.ensures in
    let bad : c.in-Ok.field-0 ≢ Good = search rules in
    record {
      entries = sym (noted_bad m all old new n lines later line c.in-Ok.field-0 left c.in-Some.ensures.found noted bad);
      opening =
          noted_opening m all old new n lines later line c.in-Ok.field-0 left c.in-Some.ensures.found noted ∙ opening;
    }

pub loop-line-preserved : goal.loop-line-preserved
loop-line-preserved g c =
    let m =
    meaning_of g.P.Application.app g.P.Application.text g.P.Application.from_text g.P.Application.names
    g.P.Invariant.counts in
    let (n, left, opening, limit, room) = c.loop-line.invariant in
    let all = entries_of_lines m c.args.book.now.config 1 (lines_of c.args.script.now) in
    let old = c.loop-line.book in
    let new = c.record_line.new.book in
    let lines = lines_of c.loop-line.rest.now in
    let later = lines_of c.in-Some.after.now in
    let line = c.in-Some.line.now in
    let noted = c.in-Ok-Good.ensures in
    let status = c.in-Ok-Good.field-0 in
    let found = c.in-Some.ensures.found in
    let cut : length c.loop-line.rest.now ≡ length line + 1 + length c.in-Some.after.now =
    cut_length c.loop-line.rest.now line c.in-Some.after.now found in (
      n + 1,
      noted_good m all old new n lines later line status left found noted c.in-Ok-Good.field-0-is,
      noted_opening m all old new n lines later line status left found noted ∙ opening,
      noted_limit m all old new n lines later line status left found noted ∙ limit,
      noted_room m all old new n lines later line status left found noted (length c.in-Some.after.now)
          (length c.args.script.now) (omega (arith, room, cut)),
    )

pub loop-line-init : goal.loop-line-init
loop-line-init g c =
    let m =
    meaning_of g.P.Application.app g.P.Application.text g.P.Application.from_text g.P.Application.names
    g.P.Invariant.counts in
    let all = entries_of_lines m c.args.book.now.config 1 (lines_of c.args.script.now) in
    let none = ap length c.requires.fresh in
    (1, sym (ap (λ es. es ++ all) c.requires.fresh), refl, c.requires.room, omega (arith, none))

pub returns-clause-entries : goal.returns-clause-entries
returns-clause-entries g c =
    let m =
    meaning_of g.P.Application.app g.P.Application.text g.P.Application.from_text g.P.Application.names
    g.P.Invariant.counts in
    let (n, left, opening, limit, room) = c.loop-line.invariant in
    let all = entries_of_lines m c.args.book.now.config 1 (lines_of c.args.script.now) in
    let rest = c.loop-line.rest.now in
    sym
    (noted_last m all c.loop-line.book c.record_line-2.new.book n (lines_of rest) [] rest c.in_ok-record_line.field-0
    left c.in_default.ensures.only c.in_ok-record_line.ensures refl)

pub returns-clause-opening : goal.returns-clause-opening
returns-clause-opening g c =
    let m =
    meaning_of g.P.Application.app g.P.Application.text g.P.Application.from_text g.P.Application.names
    g.P.Invariant.counts in
    let (n, left, opening, limit, room) = c.loop-line.invariant in
    let all = entries_of_lines m c.args.book.now.config 1 (lines_of c.args.script.now) in
    let rest = c.loop-line.rest.now in
    noted_opening m all c.loop-line.book c.record_line-2.new.book n (lines_of rest) [] rest c.in_ok-record_line.field-0
    left c.in_default.ensures.only c.in_ok-record_line.ensures ∙ opening
