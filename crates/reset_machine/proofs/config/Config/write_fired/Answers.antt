use Rattle.std.proofs.Common.{slice_index}
use Rattle.reset_model.specs.Steps.{event_node}
use Rattle.reset_model.proofs.Positions.{id_at-position}
use Rattle.reset_machine.proofs.StepClauses.{wave_is_outcome}
use Rattle.reset_machine.proofs.config.Config.write_fired.Goals as goal

pub returns-in-Ok-clause-outcome : goal.returns-in-Ok-clause-outcome
returns-in-Ok-clause-outcome g c = λ e fired.
    let now = c.args.self.now in
    let is = rw c.in-Ok.is at fired in
    wave_is_outcome g.P.Application.app now c.write_wave.new.self e c.in-Ok.fired
    (slice_index now.graph.ids c.in-Ok.ix) is.1
    (id_at-position now.graph.ids c.in-Ok.ix (event_node e) is.0) c.write_wave.result
    c.write_wave.ensures.ok c.write_wave.ensures.memory
