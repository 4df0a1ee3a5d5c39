-- The moves of the nodes before the index were gathered.
use Rattle.std.proofs.Common.{◌≡◌, take}
use Rattle.std.specs.List.{flat_map}
use Rattle.scheduler.specs.Driven.{enabled_events}
use Rattle.script_replay.proofs.moves.all_moves.Given as goal

abbrev pub invariant-loop-at : goal.invariant-loop-at
invariant-loop-at g l =
    l.moves.items ≡ flat_map (enabled_events g.P.Application.app l.config) (take l.at-index l.config.graph.nodes)
