use Rattle.std.proofs.Common.{rules}
use Rattle.std.proofs.lemmas.Fn.{filter_same}
use Rattle.topology.proofs.ids.remove_id.Goals as goal

pub returns : goal.returns
returns c = filter_same _ _ _ (λ x b g k. search rules) _ _ c.retain.ensures.filtered
