use Rattle.std.proofs.Common.{[], ◌∷◌}
use Rattle.reset_model.specs.declared.step.Done.TheVariants.{Did}
use Rattle.reset_machine.proofs.StepClauses.{done_refused, done_reply, done_step}
use Rattle.reset_machine.proofs.StepShadows.{sound_step}
use Rattle.reset_machine.proofs.config.Config.step.Goals as goal

pub returns : goal.returns
returns g c =
    let app = g.P.Application.app in
    let Inv = g.P.Application.Inv in
    let now = c.args.self.now in
    let new = c.perform.new.self in
    let e = c.args.event in
    let r = c.perform.result in
    let graph = c.lemma_is_graph.ensures.graph in
    let shaped = c.lemma_is_graph.ensures.shaped in
    let is = c.perform.ensures.outcome in
    record {
      ok = done_step app now new e graph shaped r is;
      reply = done_reply app now new e graph shaped r is;
      err = done_refused app now new e graph shaped r is;
      kept = c.perform.ensures.kept;
      lawful = sound_step app Inv now new e
          (λ reply sound run.
          c.runs_are_steps.ensures now new (e ∷ []) (Did reply ∷ []) graph shaped.modulus sound run) graph shaped r is;
      outcome = is;
    }
