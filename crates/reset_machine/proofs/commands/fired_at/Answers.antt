use Rattle.std.proofs.Common.{ap, position, ◌==◌, ◌∙◌}
use Rattle.reset_model.proofs.NodePositions.{a_node}
use Rattle.reset_machine.proofs.CommandRows.{fired_here}
use Rattle.reset_machine.proofs.commands.fired_at.Goals as goal

pub returns-in-Ok : goal.returns-in-Ok
returns-in-Ok g c = λ e layer here near rows.
    let place = c.args.place.now in (
      ap (λ k. position (λ i. i == k) place.config.graph.ids) here ∙ c.index.ensures.place,
      fired_here place.config e place.id c.args.fired layer here
          (a_node place.config.graph.nodes place.id c.lemma_is_place.ensures.node) near rows
          ∙ c.in-Ok.ensures,
    )

pub returns-in-Err : goal.returns-in-Err
returns-in-Err g c = λ e layer here near rows.
    let place = c.args.place.now in
    fired_here place.config e place.id c.args.fired layer here
    (a_node place.config.graph.nodes place.id c.lemma_is_place.ensures.node) near rows
    ∙ c.in-Err.ensures
