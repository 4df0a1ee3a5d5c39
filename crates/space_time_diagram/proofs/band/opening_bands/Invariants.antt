-- The bands of the nodes before the index were made.
use Rattle.std.proofs.Common.{◌≡◌, map, take}
use Rattle.space_time_diagram.specs.Bands.{opening_band}
use Rattle.space_time_diagram.proofs.band.opening_bands.Given as goal

abbrev pub invariant-loop-id : goal.invariant-loop-id
invariant-loop-id g l = l.bands.items ≡ map (opening_band l.nodes l.opening l.count) (take l.id-index l.nodes)
