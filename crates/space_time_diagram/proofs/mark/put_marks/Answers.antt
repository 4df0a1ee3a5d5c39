use Rattle.std.proofs.Common.{arith, refl, subst, ◌+◌}
use Rattle.std.specs.Io.KnownBytes.{Appends}
use Rattle.action_tables.specs.Written.{AppendsPrefix}
use Rattle.action_tables.proofs.Prefixes.{OnErr-always}
use Rattle.history.specs.declared.entry.Entry.{Entry}
use Rattle.space_time_diagram.specs.Lanes.{own_lane}
use Rattle.space_time_diagram.specs.Marks.{mark}
use Rattle.space_time_diagram.proofs.MarkTexts.{marks_before, marks_more, marks_stopped}
use Rattle.space_time_diagram.proofs.mark.put_marks.Goals as goal

pub loop-entry-init : goal.loop-entry-init
loop-entry-init g c =
    let lane = own_lane c.args.nodes.now c.args.opening.now in
    (marks_before lane c.args.before (g.W.Write.contents c.args.out.now), refl)

pub returns-in_err-put_mark-clause-err : goal.returns-in_err-put_mark-clause-err
returns-in_err-put_mark-clause-err g c =
    let loop = c.loop-entry in
    let lane = own_lane c.args.nodes.now c.args.opening.now in
    let here =
    subst (λ (e : Entry). AppendsPrefix (g.W.Write.contents loop.out) (g.W.Write.contents c.put_mark.new.out)
    (mark lane c.args.before (loop.place + 1) e)) c.entry-item.is c.in_err-put_mark.ensures.err in
    OnErr-always _ _
    (marks_stopped lane c.args.before _ _ _ c.args.entries.now loop.entry-index (loop.place + 1) c.entry-item.result
    c.loop-entry-test.true (omega (arith, loop.invariant.1)) loop.invariant.0 here)

pub loop-entry-preserved : goal.loop-entry-preserved
loop-entry-preserved g c =
    let loop = c.loop-entry in
    let lane = own_lane c.args.nodes.now c.args.opening.now in
    let here =
    subst (λ (e : Entry). Appends (g.W.Write.contents loop.out) (g.W.Write.contents c.put_mark.new.out)
    (mark lane c.args.before (loop.place + 1) e)) c.entry-item.is c.in_ok-put_mark.ensures.ok in (
      marks_more lane c.args.before _ _ _ c.args.entries.now loop.entry-index (loop.place + 1) c.entry-item.result
          c.loop-entry-test.true (omega (arith, loop.invariant.1)) loop.invariant.0 here,
      omega (arith, loop.invariant.1),
    )
