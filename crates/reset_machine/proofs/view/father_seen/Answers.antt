use Rattle.std.proofs.Common.{sym, ap, ◌∙◌}
use Rattle.reset_model.specs.Configuration.{tree_of, wave_of}
use Rattle.reset_model.proofs.NodePositions.{father_seen-near}
use Rattle.reset_model.proofs.Positions.{id_at-position}
use Rattle.reset_machine.proofs.view.father_seen.Goals as goal

pub returns-in-Some : goal.returns-in-Some
returns-in-Some g c =
    let place = c.args.place.now in
    let config = place.config in
    let up = c.tree-father.result.father in
    let near = c.in-Some.ensures.found in
    father_seen-near config.graph (tree_of config) (wave_of config) place.id up c.wave_at.result
    (ap (λ r. r.father) (sym c.tree-father.ensures)) (λ same. c.if-father-id.false (same ∙ sym c.id.ensures)) near.1
    (ap (wave_of config) (sym (id_at-position config.graph.ids c.in-Some.index up near.0)) ∙ sym c.wave_at.ensures)
