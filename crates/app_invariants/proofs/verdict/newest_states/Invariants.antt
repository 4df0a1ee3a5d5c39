-- The states of the identifiers before the index are there.
use Rattle.std.proofs.Common.{◌≡◌, map, take}
use Rattle.app_invariants.specs.Verdicts.{newest_of}
use Rattle.app_invariants.proofs.verdict.newest_states.Given as goal

abbrev pub invariant-loop-index : goal.invariant-loop-index
invariant-loop-index g l = l.states.items ≡ map (newest_of g.P.Application.app l.config) (take l.index l.config.graph.ids)
