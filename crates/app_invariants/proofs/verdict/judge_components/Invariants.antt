-- The leaders among the nodes before the index were judged.
use Rattle.std.proofs.Common.{◌≡◌, ◌==◌, filter, map, take}
use Rattle.topology.specs.Components.{leader}
use Rattle.app_invariants.specs.Verdicts.{verdict_of}
use Rattle.app_invariants.proofs.verdict.judge_components.Given as goal

abbrev pub invariant-loop-id : goal.invariant-loop-id
invariant-loop-id g l =
    l.verdicts.items
    ≡ map (verdict_of g.P.Invariant.counts g.P.Application.app l.config)
    (filter (λ i. leader l.config.graph i == i) (take l.id-index l.config.graph.nodes))
