use Rattle.std.proofs.Common.{◌≡◌, ◌+◌, ◌-◌, ◌++◌, ◌∷◌, [], arith}
use Rattle.std.proofs.lemmas.Grind.{common_steps}
use Rattle.network_shapes.specs.Shapes.{node_numbers}
use Rattle.network_shapes.proofs.Ranges.{range_next}
use Rattle.network_shapes.proofs.links.node_numbers.Goals as goal

pub loop-node-preserved : goal.loop-node-preserved
loop-node-preserved c =
    let next : node_numbers (c.loop-node.node + 1 - 1) ≡ node_numbers (c.loop-node.node - 1) ++ c.loop-node.node ∷ [] =
    range_next 1 c.loop-node.node (omega arith) in
    grind (arith, common_steps, next)
