use Rattle.std.proofs.Common.{All, Some, ◌∙◌, ap, subst, sym}
use Rattle.std.proofs.lemmas.List.Elements.{All-pop}
use Rattle.topology.specs.Graph.{IsNode}
use Rattle.reset_model.specs.Configuration.{Configuration}
use Rattle.snapshots.specs.Parts.{with_states}
use Rattle.snapshots.specs.declared.item.NodeState.{NodeState}
use Rattle.snapshots.proofs.Configured.{with_last}
use Rattle.snapshots.proofs.configuration.with_states.Goals as goal

pub put_state-requires-after_bounds : goal.put_state-requires-after_bounds
put_state-requires-after_bounds g c κs within =
    let P : NodeState g.row.P-Local.Denot → Type 0 = λ node. IsNode c.loop-node.config.graph node.id in
    (All-pop P c.loop-node.nodes.items c.pop.new.self.items (Some c.in-Some.node) c.in-Some.ensures.items
    c.loop-node.invariant.nodes).1

pub loop-node-preserved : goal.loop-node-preserved
loop-node-preserved g c =
    let P : NodeState g.row.P-Local.Denot → Type 0 = λ node. IsNode c.loop-node.config.graph node.id in
    let Q : Configuration g.row.P-Local.Denot → Type 0 = λ t. All (λ node. IsNode t.graph node.id) c.pop.new.self.items in
    record {
      same = ap (λ t. with_states t c.pop.new.self.items) c.put_state.ensures
          ∙ sym (with_last c.loop-node.config c.pop.new.self.items c.in-Some.node)
          ∙ ap (with_states c.loop-node.config) (sym c.in-Some.ensures.items)
          ∙ c.loop-node.invariant.same;
      nodes = subst Q (sym c.put_state.ensures)
          (All-pop P c.loop-node.nodes.items c.pop.new.self.items (Some c.in-Some.node) c.in-Some.ensures.items
          c.loop-node.invariant.nodes).0;
    }
