use Rattle.topology.proofs.RowLemmas.{tied_graph}
use Rattle.topology.proofs.topology.Topology.lemma_is_graph.Goals as goal

pub returns-clause-graph : goal.returns-clause-graph
returns-clause-graph c =
    let are = c.self.invariant in
    rw (← c.self.view_is) (tied_graph _ _ _ are.tied)
