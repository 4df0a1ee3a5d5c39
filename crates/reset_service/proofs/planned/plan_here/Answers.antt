use Rattle.std.proofs.Common.{◌≡◌, List}
use Rattle.reset_model.specs.declared.event.Event.{Event}
use Rattle.recovery.specs.Recovered.{Recovers}
use Rattle.script_replay.specs.declared.status.Status.TheVariants.{Good}
use Rattle.script_replay.proofs.Runs.{leaves_weaker}
use Rattle.reset_service.specs.Planned.{recovery_text}
use Rattle.reset_service.proofs.planned.plan_here.Goals as goal

pub returns-in-Ok-clause-leaves : goal.returns-in-Ok-clause-leaves
returns-in-Ok-clause-leaves g c =
    let plan = c.in-Ok.plan in
    leaves_weaker (λ o. o ≡ (recovery_text plan.repairs.items plan.reset.items, Good))
    (λ o. (repairs reset : List Event) × Recovers g.P.Application.app c.args.config.now repairs reset
    × (o ≡ (recovery_text repairs reset, Good))) _ _ c.answer_plan.result
    (λ o is. (plan.repairs.items, plan.reset.items, c.in-Ok.ensures, is)) c.answer_plan.ensures.leaves
