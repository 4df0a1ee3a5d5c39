use Rattle.std.proofs.Common.{◌∙◌}
use Rattle.topology.proofs.RowLemmas.{node_by_index}
use Rattle.topology.proofs.ids.Ids.is_up.Goals as goal

pub returns : goal.returns
returns c = c.is_some.ensures ∙ node_by_index _ _ c.lemma_are_ids.ensures.nodes _ c.node_at.result c.node_at.ensures
