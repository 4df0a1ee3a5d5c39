use Rattle.std.proofs.Common.{◌≡◌, map, take}
use Rattle.toml.specs.View.{view}
use Rattle.topology.specs.TopologyTable.{link_data}
use Rattle.network_shapes.proofs.table.links_value.Given as goal

abbrev pub invariant-loop-link : goal.invariant-loop-link
invariant-loop-link l = map view l.values.items ≡ map link_data (take l.link-index l.links)
