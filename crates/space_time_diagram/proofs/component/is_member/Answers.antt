use Rattle.std.proofs.Common.{IfNone, Option, subst, ℕ}
use Rattle.topology.specs.Graph.{IsNode}
use Rattle.space_time_diagram.proofs.ComponentMembers.{same_leader_tests, strange_tests, stranger_tests}
use Rattle.space_time_diagram.proofs.component.is_member.Goals as goal

pub returns-in-Some-Some : goal.returns-in-Some-Some
returns-in-Some-Some c =
    let node = c.in-Some-Some.ensures.found in
    let other = c.in-Some-Some.ensures'.found in
    same_leader_tests c.args.topology.now c.lemma_is_graph.ensures.graph c.args.node c.args.other node.0 other.0
    c.in-Some-Some.first c.in-Some-Some.second node.1 other.1

pub returns-in_default : goal.returns-in_default
returns-in_default c =
    stranger_tests c.args.topology.now c.lemma_is_graph.ensures.graph c.args.node c.args.other
    c.in_default.ensures'.none

pub returns-in_default-2 : goal.returns-in_default-2
returns-in_default-2 c =
    strange_tests c.args.topology.now c.lemma_is_graph.ensures.graph c.args.node c.args.other
    (subst (λ (o : Option ℕ). IfNone o (IsNode c.args.topology.now c.args.node → ⊥)) c.in_default.is-0
    c.leader_of.ensures.none)
