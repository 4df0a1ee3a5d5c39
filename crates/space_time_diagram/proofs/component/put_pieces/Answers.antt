use Rattle.std.proofs.Common.{List, OnErr, OnOk, subst, ℕ}
use Rattle.std.specs.Io.KnownBytes.{Appends}
use Rattle.action_tables.specs.Written.{AppendsPrefix}
use Rattle.space_time_diagram.specs.Lanes.{lane_of}
use Rattle.space_time_diagram.proofs.ComponentMembers.{member_pieces}
use Rattle.space_time_diagram.proofs.component.put_pieces.Goals as goal

pub returns-clause-ok : goal.returns-clause-ok
returns-clause-ok g c =
    let lane = lane_of c.args.nodes.now c.args.opening.now in
    let graph = c.args.topology.now in
    subst (λ (t : List ℕ). OnOk c.put_member_pieces.result (Appends (g.W.Write.contents c.args.out.now)
    (g.W.Write.contents c.put_member_pieces.new.out) t))
    (member_pieces lane graph c.args.node c.args.nodes.now)
    c.put_member_pieces.ensures.ok

pub returns-clause-err : goal.returns-clause-err
returns-clause-err g c =
    let lane = lane_of c.args.nodes.now c.args.opening.now in
    let graph = c.args.topology.now in
    subst (λ (t : List ℕ). OnErr c.put_member_pieces.result (AppendsPrefix (g.W.Write.contents c.args.out.now)
    (g.W.Write.contents c.put_member_pieces.new.out) t))
    (member_pieces lane graph c.args.node c.args.nodes.now)
    c.put_member_pieces.ensures.err
