use Rattle.std.proofs.Common.{length, [], ◌++◌}
use Rattle.action_tables.proofs.Prefixes.{AppendsPrefix-first, OnErr-always}
use Rattle.space_time_diagram.specs.Bands.{bands_text}
use Rattle.space_time_diagram.specs.Completions.{completions}
use Rattle.space_time_diagram.specs.Frame.{head_text}
use Rattle.space_time_diagram.specs.Headings.{foot_text}
use Rattle.space_time_diagram.specs.Lanes.{lane_of, own_lane}
use Rattle.space_time_diagram.specs.Marks.{marks_from}
use Rattle.space_time_diagram.proofs.Sequences.{fifth_failed, five_written, fourth_failed}
use Rattle.space_time_diagram.proofs.Sequences.{second_failed, third_failed}
use Rattle.space_time_diagram.proofs.diagram.put_page.Goals as goal

pub returns-in_err-put_head-clause-err : goal.returns-in_err-put_head-clause-err
returns-in_err-put_head-clause-err g c =
    let lane = lane_of c.args.nodes.now c.args.opening.now in
    let nodes = c.args.nodes.now in
    let es = c.args.entries.now in
    let head = head_text (length nodes) (length es) in
    let bands = bands_text c.args.bands.now in
    let marks = marks_from (own_lane nodes c.args.opening.now) c.args.before 1 es in
    let lines =
    completions g.P.Application.app g.P.Application.from_text nodes c.args.before c.args.opening.now es
    c.args.reports.now in
    let last = foot_text lane nodes (length es) in
    OnErr-always _ _ (AppendsPrefix-first _ _ head (bands ++ (marks ++ (lines ++ (last ++ []))))
    c.in_err-put_head.ensures.err)

pub returns-in_err-put_bands-clause-err : goal.returns-in_err-put_bands-clause-err
returns-in_err-put_bands-clause-err g c =
    let lane = lane_of c.args.nodes.now c.args.opening.now in
    let nodes = c.args.nodes.now in
    let es = c.args.entries.now in
    let head = head_text (length nodes) (length es) in
    let bands = bands_text c.args.bands.now in
    let marks = marks_from (own_lane nodes c.args.opening.now) c.args.before 1 es in
    let lines =
    completions g.P.Application.app g.P.Application.from_text nodes c.args.before c.args.opening.now es
    c.args.reports.now in
    let last = foot_text lane nodes (length es) in
    OnErr-always _ _ (second_failed _ _ _ head bands (marks ++ (lines ++ (last ++ [])))
    c.in_ok-put_head.ensures.ok c.in_err-put_bands.ensures.err)

pub returns-in_err-put_marks-clause-err : goal.returns-in_err-put_marks-clause-err
returns-in_err-put_marks-clause-err g c =
    let lane = lane_of c.args.nodes.now c.args.opening.now in
    let nodes = c.args.nodes.now in
    let es = c.args.entries.now in
    let head = head_text (length nodes) (length es) in
    let bands = bands_text c.args.bands.now in
    let marks = marks_from (own_lane nodes c.args.opening.now) c.args.before 1 es in
    let lines =
    completions g.P.Application.app g.P.Application.from_text nodes c.args.before c.args.opening.now es
    c.args.reports.now in
    let last = foot_text lane nodes (length es) in
    OnErr-always _ _ (third_failed _ _ _ _ head bands marks (lines ++ (last ++ [])) c.in_ok-put_head.ensures.ok
    c.in_ok-put_bands.ensures.ok c.in_err-put_marks.ensures.err)

pub returns-in_err-put_completions-clause-err : goal.returns-in_err-put_completions-clause-err
returns-in_err-put_completions-clause-err g c =
    let lane = lane_of c.args.nodes.now c.args.opening.now in
    let nodes = c.args.nodes.now in
    let es = c.args.entries.now in
    let head = head_text (length nodes) (length es) in
    let bands = bands_text c.args.bands.now in
    let marks = marks_from (own_lane nodes c.args.opening.now) c.args.before 1 es in
    let lines =
    completions g.P.Application.app g.P.Application.from_text nodes c.args.before c.args.opening.now es
    c.args.reports.now in
    let last = foot_text lane nodes (length es) in
    OnErr-always _ _ (fourth_failed _ _ _ _ _ head bands marks lines (last ++ []) c.in_ok-put_head.ensures.ok
    c.in_ok-put_bands.ensures.ok c.in_ok-put_marks.ensures.ok c.in_err-put_completions.ensures.err)

pub returns-in_err-put_foot-clause-err : goal.returns-in_err-put_foot-clause-err
returns-in_err-put_foot-clause-err g c =
    let lane = lane_of c.args.nodes.now c.args.opening.now in
    let nodes = c.args.nodes.now in
    let es = c.args.entries.now in
    let head = head_text (length nodes) (length es) in
    let bands = bands_text c.args.bands.now in
    let marks = marks_from (own_lane nodes c.args.opening.now) c.args.before 1 es in
    let lines =
    completions g.P.Application.app g.P.Application.from_text nodes c.args.before c.args.opening.now es
    c.args.reports.now in
    let last = foot_text lane nodes (length es) in
    OnErr-always _ _ (fifth_failed _ _ _ _ _ _ head bands marks lines last [] c.in_ok-put_head.ensures.ok
    c.in_ok-put_bands.ensures.ok c.in_ok-put_marks.ensures.ok c.in_ok-put_completions.ensures.ok
    c.in_err-put_foot.ensures.err)

pub returns-clause-ok : goal.returns-clause-ok
returns-clause-ok g c =
    let lane = lane_of c.args.nodes.now c.args.opening.now in
    let nodes = c.args.nodes.now in
    let es = c.args.entries.now in
    let head = head_text (length nodes) (length es) in
    let bands = bands_text c.args.bands.now in
    let marks = marks_from (own_lane nodes c.args.opening.now) c.args.before 1 es in
    let lines =
    completions g.P.Application.app g.P.Application.from_text nodes c.args.before c.args.opening.now es
    c.args.reports.now in
    let last = foot_text lane nodes (length es) in
    five_written _ _ _ _ _ _ head bands marks lines last c.in_ok-put_head.ensures.ok
    c.in_ok-put_bands.ensures.ok c.in_ok-put_marks.ensures.ok c.in_ok-put_completions.ensures.ok
    c.in_ok-put_foot.ensures.ok
