use Rattle.std.proofs.Common.{sym, ◌∙◌}
use Rattle.reset_machine.proofs.NearSeen.{same_neighbour}
use Rattle.reset_machine.proofs.node_view.is_at.Goals as goal

pub returns : goal.returns
returns g c =
    let same = same_neighbour _ _ _ _ _ _ _ _ c.id_at.ensures c.tree_at.ensures c.wave_at.ensures c.local_at.ensures in
    (λ is. c.is.ensures.0 is ∙ same, λ is. c.is.ensures.1 (is ∙ sym same))
