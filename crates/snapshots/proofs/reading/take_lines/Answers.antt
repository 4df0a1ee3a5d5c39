use Rattle.std.proofs.Common.{◌++◌, ◌∷◌, ◌∙◌, [], ℕ, ap, arith, append_assoc, subst, sym, length-append}
use Rattle.std.proofs.lemmas.Result.{IfErr-weaker, on_ok_weaker}
use Rattle.applications.specs.Meaning.{meaning_of}
use Rattle.script_replay.specs.Lines.{lines_of}
use Rattle.snapshots.specs.Reading.{IsLineFault, with_said}
use Rattle.snapshots.specs.Reading.IsFirstFault.{of_a_line}
use Rattle.snapshots.proofs.Says.{say_last, say_more}
use Rattle.snapshots.proofs.reading.take_lines.Goals as goal

pub returns-in-Err-clause-err : goal.returns-in-Err-clause-err
returns-in-Err-clause-err g c = λ other.
    let m =
    meaning_of g.P.Application.app g.P.Application.text g.P.Application.from_text g.P.Application.names
    g.P.Invariant.counts in
    let (lines, items, split, count, room, said, kept) = c.loop-line.invariant in
    let P : ℕ → Type 0 = λ k. IsLineFault m c.args.topology.now k items c.in-Some.line.now c.in-Err.fault in
    of_a_line lines c.in-Some.line.now (lines_of c.in-Some.after.now) items
    (split ∙ ap (λ ls. lines ++ ls) c.in-Some.ensures.found) said
    (subst P count (c.in-Err.ensures.err other items kept))

pub loop-line-preserved : goal.loop-line-preserved
loop-line-preserved g c =
    let m =
    meaning_of g.P.Application.app g.P.Application.text g.P.Application.from_text g.P.Application.names
    g.P.Invariant.counts in
    let (lines, items, split, count, room, said, kept) = c.loop-line.invariant in
    let (line_said, says, allowed, now_kept) = c.in-Ok.ensures.ok items kept in
    let line = c.in-Some.line.now in
    let longer = length-append lines (line ∷ []) in (
      lines ++ line ∷ [],
      with_said items line_said,
      split
          ∙ ap (λ ls. lines ++ ls) c.in-Some.ensures.found
          ∙ sym (append_assoc lines (line ∷ []) (lines_of c.in-Some.after.now)),
      omega (arith, count, longer),
      omega (arith, room, c.in-Some.ensures.shorter),
      say_more m c.args.topology.now 1 c.loop-line.number lines line [] items line_said said (omega (arith, count)) says
          allowed,
      now_kept,
    )

pub returns-clause-ok : goal.returns-clause-ok
returns-clause-ok g c =
    let m =
    meaning_of g.P.Application.app g.P.Application.text g.P.Application.from_text g.P.Application.names
    g.P.Invariant.counts in
    let (lines, items, split, count, room, said, kept) = c.loop-line.invariant in
    on_ok_weaker c.take_line-2.result
    (λ h.
    let (line_said, says, allowed, now_kept) = h items kept in (
      with_said items line_said,
      now_kept,
      say_last m c.args.topology.now c.loop-line.number (lines_of c.args.text.now) lines (lines_of c.loop-line.rest.now)
          c.loop-line.rest.now items line_said split c.in_default.ensures.only said count says allowed,
    )) c.take_line-2.ensures.ok

pub returns-clause-err : goal.returns-clause-err
returns-clause-err g c =
    let m =
    meaning_of g.P.Application.app g.P.Application.text g.P.Application.from_text g.P.Application.names
    g.P.Invariant.counts in
    let (lines, items, split, count, room, said, kept) = c.loop-line.invariant in
    IfErr-weaker c.take_line-2.result _ _
    (λ f h other.
    let P : ℕ → Type 0 = λ k. IsLineFault m c.args.topology.now k items c.loop-line.rest.now f in
    of_a_line lines c.loop-line.rest.now [] items (split ∙ ap (λ ls. lines ++ ls) c.in_default.ensures.only) said
    (subst P count (h other items kept))) c.take_line-2.ensures.err
