use Rattle.std.proofs.Common.{List, subst, ℕ}
use Rattle.std.specs.Io.KnownBytes.{Appends}
use Rattle.action_tables.specs.Written.{AppendsPrefix}
use Rattle.action_tables.proofs.Prefixes.{OnErr-always}
use Rattle.space_time_diagram.specs.Headings.{lane_headings}
use Rattle.space_time_diagram.specs.Lanes.{lane_of}
use Rattle.space_time_diagram.specs.Page.{heading_y}
use Rattle.space_time_diagram.proofs.Repeated.{one_failed, one_written}
use Rattle.space_time_diagram.proofs.heading.put_headings.Goals as goal

pub returns-in_err-put_lane_headings-clause-err : goal.returns-in_err-put_lane_headings-clause-err
returns-in_err-put_lane_headings-clause-err g c =
    let row : ℕ → List ℕ = λ y. lane_headings (lane_of c.args.nodes.now c.args.opening.now) c.args.nodes.now y in
    OnErr-always _ _
    (one_failed (λ n. row (heading_y n)) _ _ _ c.loop-number.number c.args.times c.loop-number-test.true
    c.loop-number.invariant
    (subst (λ y. AppendsPrefix (g.W.Write.contents c.loop-number.out) (g.W.Write.contents
    c.put_lane_headings.new.out) (row y)) c.heading_y.ensures c.in_err-put_lane_headings.ensures.err))

pub loop-number-preserved : goal.loop-number-preserved
loop-number-preserved g c =
    let row : ℕ → List ℕ = λ y. lane_headings (lane_of c.args.nodes.now c.args.opening.now) c.args.nodes.now y in
    one_written (λ n. row (heading_y n)) _ _ _ c.loop-number.number c.loop-number.invariant
    (subst (λ y. Appends (g.W.Write.contents c.loop-number.out) (g.W.Write.contents c.put_lane_headings.new.out)
    (row y)) c.heading_y.ensures c.in_ok-put_lane_headings.ensures.ok)
