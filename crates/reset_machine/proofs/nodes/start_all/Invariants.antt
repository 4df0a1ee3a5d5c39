use Rattle.std.proofs.Common.{◌≡◌, map, take}
use Rattle.reset_machine.proofs.nodes.start_all.Given as goal

-- the nodes before the index have their start states
abbrev pub invariant-loop-index : goal.invariant-loop-index
invariant-loop-index g l = l.starts.items ≡ map (g.P.Application.app.start l.topology) (take l.index l.topology.ids)
