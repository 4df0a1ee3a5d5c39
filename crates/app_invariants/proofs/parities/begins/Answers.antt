use Rattle.std.proofs.Common.{length, arith}
use Rattle.app_invariants.proofs.Doubling.{is_none, no_link, not_none, some_link}
use Rattle.app_invariants.proofs.parities.begins.Goals as goal

pub returns-else-links-eq0-clause-begins : goal.returns-else-links-eq0-clause-begins
returns-else-links-eq0-clause-begins c =
    λ t some.
    let near = c.neighbours.result.now in
    some_link c.args.topology.now c.lemma_is_graph.ensures.graph c.args.index near c.neighbours.ensures.ids
    (not_none (length near) c.is_empty.result c.is_empty.ensures t)

pub returns-else-links-eq0-clause-ends : goal.returns-else-links-eq0-clause-ends
returns-else-links-eq0-clause-ends c =
    λ f.
    let near = c.neighbours.result.now in (
      omega (arith, c.if-links-eq0.false),
      no_link c.args.topology.now c.lemma_is_graph.ensures.graph c.args.index near c.neighbours.ensures.ids
          (is_none (length near) c.is_empty.result c.is_empty.ensures f),
    )
