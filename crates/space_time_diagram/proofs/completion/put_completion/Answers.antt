use Rattle.std.proofs.Common.{List, OnErr, OnOk, length, subst, sym, ℕ, ◌∙◌}
use Rattle.std.specs.Io.KnownBytes.{Appends}
use Rattle.action_tables.specs.Written.{AppendsPrefix}
use Rattle.topology.specs.Components.{component}
use Rattle.topology.specs.Graph.{is_node}
use Rattle.space_time_diagram.specs.Lanes.{lane_of}
use Rattle.space_time_diagram.proofs.ComponentMembers.{line_where_some, nothing_where_none}
use Rattle.space_time_diagram.proofs.Sequences.{nothing_yet}
use Rattle.space_time_diagram.proofs.completion.put_completion.Goals as goal

pub returns-then-has_member-clause-ok : goal.returns-then-has_member-clause-ok
returns-then-has_member-clause-ok g c =
    let nodes = c.args.nodes.now in
    let out = g.W.Write.contents c.args.out.now in
    subst (λ (t : List ℕ). OnOk c.put_completion_line.result (Appends out (g.W.Write.contents
    c.put_completion_line.new.out) t))
    (line_where_some (lane_of nodes c.args.opening.now) (length nodes) c.args.before c.args.report
    (is_node (component c.args.topology.now c.args.node)) nodes (sym c.has_member.ensures ∙ c.if-has_member.true))
    c.put_completion_line.ensures.ok

pub returns-then-has_member-clause-err : goal.returns-then-has_member-clause-err
returns-then-has_member-clause-err g c =
    let nodes = c.args.nodes.now in
    let out = g.W.Write.contents c.args.out.now in
    subst (λ (t : List ℕ). OnErr c.put_completion_line.result (AppendsPrefix out (g.W.Write.contents
    c.put_completion_line.new.out) t))
    (line_where_some (lane_of nodes c.args.opening.now) (length nodes) c.args.before c.args.report
    (is_node (component c.args.topology.now c.args.node)) nodes (sym c.has_member.ensures ∙ c.if-has_member.true))
    c.put_completion_line.ensures.err

pub returns-else-has_member-clause-ok : goal.returns-else-has_member-clause-ok
returns-else-has_member-clause-ok g c =
    let nodes = c.args.nodes.now in
    let out = g.W.Write.contents c.args.out.now in
    subst (λ (t : List ℕ). Appends out out t)
    (nothing_where_none (lane_of nodes c.args.opening.now) (length nodes) c.args.before c.args.report
    (is_node (component c.args.topology.now c.args.node)) nodes (sym c.has_member.ensures ∙ c.if-has_member.false))
    (nothing_yet out)
