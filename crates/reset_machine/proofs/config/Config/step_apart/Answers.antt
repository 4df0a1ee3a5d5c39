use Rattle.reset_machine.proofs.StepClauses.{act_is_outcome, no_act, row_is_outcome}
use Rattle.reset_machine.proofs.config.Config.step_apart.Goals as goal

pub returns-in-Act-clause-outcome : goal.returns-in-Act-clause-outcome
returns-in-Act-clause-outcome g c =
    act_is_outcome g.P.Application.app c.args.self.now c.act.new.self c.args.event c.lemma_is_graph.ensures.graph
    c.in-Act.at c.in-Act.case c.in-Act.with c.in-Act.is c.act.result c.act.ensures.outcome

pub returns-in_default : goal.returns-in_default
returns-in_default g c =
    let e = c.args.event in
    record {
      kept = c.fire.ensures.kept;
      outcome = row_is_outcome g.P.Application.app c.args.self.now c.fire.new.self e c.lemma_is_graph.ensures.graph
          (no_act e c.in_default.not-Act) c.fire.result c.fire.ensures.outcome;
    }
