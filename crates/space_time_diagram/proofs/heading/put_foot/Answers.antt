use Rattle.std.proofs.Common.{codes, ◌+◌, ◌/◌}
use Rattle.std.proofs.lemmas.Result.{on_err_weaker}
use Rattle.action_tables.proofs.Prefixes.{AppendsPrefix-first, AppendsPrefix-then, OnErr-always}
use Rattle.space_time_diagram.specs.Headings.{headings}
use Rattle.space_time_diagram.specs.Lanes.{lane_of}
use Rattle.space_time_diagram.proofs.heading.put_foot.Goals as goal

pub returns-in_err-put_headings-clause-err : goal.returns-in_err-put_headings-clause-err
returns-in_err-put_headings-clause-err g c =
    let numbers = headings (lane_of c.args.nodes.now c.args.opening.now) c.args.nodes.now (c.args.count / 40 + 1) in
    OnErr-always _ _ (AppendsPrefix-first _ _ numbers (codes "</svg>\n") c.in_err-put_headings.ensures.err)

pub returns-clause-err : goal.returns-clause-err
returns-clause-err g c =
    let numbers = headings (lane_of c.args.nodes.now c.args.opening.now) c.args.nodes.now (c.args.count / 40 + 1) in
    on_err_weaker _ (λ h. AppendsPrefix-then _ _ _ numbers (codes "</svg>\n") c.in_ok-put_headings.ensures.ok h)
    c.put_bytes.ensures.err
