use Rattle.reset_model.specs.Completion.{applied}
use Rattle.reset_model.specs.BySteps.{IsBySteps}
use Rattle.reset_model.specs.Runs.{IsRun}
use Rattle.reset_model.specs.Sound.{IsSound}
use Rattle.reset_machine.proofs.StepShadows.{if_ok}
use Rattle.reset_machine.proofs.config.Config.run.Goals as goal

pub returns-clause-lawful : goal.returns-clause-lawful
returns-clause-lawful g c =
    let app = g.P.Application.app in
    let now = c.args.self.now in
    let new = c.run_all.new.self in
    let es = c.args.events.now in
    let graph = c.lemma_is_graph.ensures.graph in
    let shaped = c.lemma_is_graph.ensures.shaped in
    if_ok (λ done. IsRun app now es done.items new)
    (λ done. IsSound now → IsBySteps app g.P.Application.Inv now (applied es done.items) new)
    (λ done run sound. c.runs_are_steps.ensures now new es done.items graph shaped.modulus sound run)
    c.run_all.result c.run_all.ensures.ok
