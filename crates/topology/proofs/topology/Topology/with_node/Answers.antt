use Rattle.std.proofs.Common.{◌≡◌, ◌==◌, Some, None, true, false, ap, refl, rules, sym, subst, get_or, position, ◌∙◌}
use Rattle.std.proofs.lemmas.Bool.{eqb-true}
use Rattle.std.proofs.lemmas.List.Quantifiers.{position-Some}
use Rattle.topology.specs.Changing.{members_with, with_node}
use Rattle.topology.specs.Graph.{Graph, is_node}
use Rattle.topology.specs.Rows.{graph_of}
use Rattle.topology.proofs.Ascending.{member_by_index}
use Rattle.topology.proofs.Changed.{Made, with_node_made}
use Rattle.topology.proofs.Inserting.{rows_of}
use Rattle.topology.proofs.topology.Topology.with_node.Goals as goal
use Rattle.topology.proofs.topology.Topology.with_node.Goals.{In_ok-leaders}

pub returns-in-None-clause-err : goal.returns-in-None-clause-err
returns-in-None-clause-err c =
    let g = c.args.self.now in
    λ _. rw (sym (member_by_index g.ids c.args.id None c.in-None.ensures)) refl

pub returns-then-is_up-clause-err : goal.returns-then-is_up-clause-err
returns-then-is_up-clause-err c =
    let g = c.args.self.now in
    let at = position-Some (λ k. k == c.args.id) g.ids c.in-Some.index 0 (sym c.in-Some.ensures) in
    let same : get_or g.ids c.in-Some.index 0 ≡ c.args.id = eqb-true _ _ at.1 in
    let up : is_node g c.args.id ≡ true = ap (is_node g) (sym same) ∙ sym c.if-is_up.ensures in
    λ _. rw (sym (member_by_index g.ids c.args.id (Some c.in-Some.index) c.in-Some.ensures), up) refl

-- what is made of the members with the node
made_of : (c : In_ok-leaders)
    → Made c.in_ok-ids.ids.ids c.in_ok-ids.ids.nodes (rows_of c.in_ok-rows.rows.items)
    c.in_ok-leaders.leaders.items c.self.inside.link_count
    (with_node (graph_of c.self.inside.ids.ids c.self.inside.ids.nodes (rows_of c.self.inside.near.items)) c.args.id)
made_of c =
    let members = c.self.inside.ids in
    let at =
    position-Some (λ k. k == c.args.id) members.ids c.in-Some.index 0
    (ap (λ (g : Graph). position (λ k. k == c.args.id) g.ids) c.self.view_is ∙ sym c.in-Some.ensures) in
    let leaders_are : c.in_ok-leaders.leaders.items ≡ c.self.inside.leaders.items = search rules in
    subst (λ ls. Made c.in_ok-ids.ids.ids c.in_ok-ids.ids.nodes
    (rows_of c.in_ok-rows.rows.items) ls c.self.inside.link_count
    (with_node (graph_of members.ids members.nodes (rows_of c.self.inside.near.items)) c.args.id)) (sym leaders_are)
    (with_node_made members (rows_of c.self.inside.near.items) c.self.inside.leaders.items c.self.inside.link_count
    c.self.invariant c.args.id c.in_ok-ids.ids
    (c.in_ok-ids.ensures ∙ ap (members_with members) (eqb-true (get_or members.ids c.in-Some.index 0) c.args.id at.1))
    (rows_of c.in_ok-rows.rows.items)
    (c.in_ok-rows.ensures ∙ ap rows_of c.deref.ensures.value))

pub invariant_of-result : goal.invariant_of-result
invariant_of-result c = (made_of c).parts

pub returns-clause-sound : goal.returns-clause-sound
returns-clause-sound c =
    let g = c.args.self.now in
    let at = position-Some (λ k. k == c.args.id) g.ids c.in-Some.index 0 (sym c.in-Some.ensures) in
    let same : get_or g.ids c.in-Some.index 0 ≡ c.args.id = eqb-true _ _ at.1 in
    let down : is_node g c.args.id ≡ false = ap (is_node g) (sym same) ∙ sym c.if-is_up.ensures in
    rw (sym (member_by_index g.ids c.args.id (Some c.in-Some.index) c.in-Some.ensures), down) refl

pub returns-clause-ok : goal.returns-clause-ok
returns-clause-ok c = (made_of c).graph ∙ ap (λ g. with_node g c.args.id) c.self.view_is
