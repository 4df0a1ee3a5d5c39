use Rattle.std.proofs.Common.{refl}
use Rattle.reset_model.specs.declared.event.Event.TheVariants.{Finish, Join, Open, Relay, Request}
use Rattle.reset_machine.proofs.StepClauses.{wave_outcome}
use Rattle.reset_machine.proofs.config.Config.perform.Goals as goal

pub returns-in-Request-clause-outcome : goal.returns-in-Request-clause-outcome
returns-in-Request-clause-outcome g c =
    wave_outcome g.P.Application.app c.args.self.now c.write_fired.new.self c.args.event (Request c.in-Request.at) c.lemma_is_graph.ensures.graph
    c.in-Request.is refl c.write_fired.result
    (c.write_fired.ensures.outcome (Request c.in-Request.at) (rw c.self.view_is at c.request_fired-fired.ensures))

pub returns-in-Relay-clause-outcome : goal.returns-in-Relay-clause-outcome
returns-in-Relay-clause-outcome g c =
    wave_outcome g.P.Application.app c.args.self.now c.write_fired-in-Relay.new.self c.args.event (Relay c.in-Relay.at c.in-Relay.child) c.lemma_is_graph.ensures.graph
    c.in-Relay.is refl c.write_fired-in-Relay.result
    (c.write_fired-in-Relay.ensures.outcome (Relay c.in-Relay.at c.in-Relay.child) (rw c.self.view_is at c.relay_fired-fired.ensures))

pub returns-in-Open-clause-outcome : goal.returns-in-Open-clause-outcome
returns-in-Open-clause-outcome g c =
    wave_outcome g.P.Application.app c.args.self.now c.write_fired-in-Open.new.self c.args.event (Open c.in-Open.at) c.lemma_is_graph.ensures.graph
    c.in-Open.is refl c.write_fired-in-Open.result
    (c.write_fired-in-Open.ensures.outcome (Open c.in-Open.at) (rw c.self.view_is at c.open_fired-fired.ensures))

pub returns-in-Join-clause-outcome : goal.returns-in-Join-clause-outcome
returns-in-Join-clause-outcome g c =
    wave_outcome g.P.Application.app c.args.self.now c.write_fired-in-Join.new.self c.args.event (Join c.in-Join.at) c.lemma_is_graph.ensures.graph
    c.in-Join.is refl c.write_fired-in-Join.result
    (c.write_fired-in-Join.ensures.outcome (Join c.in-Join.at) (rw c.self.view_is at c.join_fired-fired.ensures))

pub returns-in-Finish-clause-outcome : goal.returns-in-Finish-clause-outcome
returns-in-Finish-clause-outcome g c =
    wave_outcome g.P.Application.app c.args.self.now c.write_fired-in-Finish.new.self c.args.event (Finish c.in-Finish.at) c.lemma_is_graph.ensures.graph
    c.in-Finish.is refl c.write_fired-in-Finish.result
    (c.write_fired-in-Finish.ensures.outcome (Finish c.in-Finish.at) (rw c.self.view_is at c.finish_fired-fired.ensures))
