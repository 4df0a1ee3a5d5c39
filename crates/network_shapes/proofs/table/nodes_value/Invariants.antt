use Rattle.std.proofs.Common.{◌≡◌, map, take}
use Rattle.toml.specs.View.{view}
use Rattle.topology.specs.TopologyTable.{number_data}
use Rattle.network_shapes.proofs.table.nodes_value.Given as goal

abbrev pub invariant-loop-node : goal.invariant-loop-node
invariant-loop-node l = map view l.values.items ≡ map number_data (take l.node-index l.nodes)
