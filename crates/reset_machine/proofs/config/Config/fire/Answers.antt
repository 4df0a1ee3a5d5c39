use Rattle.std.proofs.Common.{Ok, slice_index, ◌∙◌, ap}
use Rattle.reset_model.specs.Steps.{event_node}
use Rattle.reset_model.proofs.ConfigurationSteps.{refused_outcome}
use Rattle.reset_model.proofs.Positions.{id_at-position}
use Rattle.reset_machine.proofs.StepClauses.{wave_is_outcome}
use Rattle.reset_machine.proofs.Writing.{tree_outcome}
use Rattle.reset_machine.proofs.config.Config.fire.Goals as goal

pub returns-in-Tree-clause-outcome : goal.returns-in-Tree-clause-outcome
returns-in-Tree-clause-outcome g c =
    let place = rw c.self.view_is at c.in-Ok.ensures.place in
    let exact = rw c.self.view_is at c.in-Ok.ensures.exact in
    tree_outcome g.P.Application.app c.args.self.now c.set_tree.new.self c.args.event _ _ place
    (exact ∙ ap Ok c.in-Tree.is) c.set_tree.ensures

pub returns-in-Wave-clause-outcome : goal.returns-in-Wave-clause-outcome
returns-in-Wave-clause-outcome g c =
    let now = c.args.self.now in
    let place = rw c.self.view_is at c.in-Ok.ensures.place in
    let exact = rw c.self.view_is at c.in-Ok.ensures.exact in
    wave_is_outcome g.P.Application.app now c.write_wave.new.self c.args.event c.in-Wave.fired
    (slice_index now.graph.ids c.in-Ok.ix) (exact ∙ ap Ok c.in-Wave.is)
    (id_at-position now.graph.ids c.in-Ok.ix (event_node c.args.event) place) c.write_wave.result
    c.write_wave.ensures.ok c.write_wave.ensures.memory

pub returns-in-Err-clause-outcome : goal.returns-in-Err-clause-outcome
returns-in-Err-clause-outcome g c =
    let exact = rw c.self.view_is at c.in-Err.ensures.exact in
    λ other. refused_outcome g.P.Application.app c.args.self.now c.args.event _ (exact other)
