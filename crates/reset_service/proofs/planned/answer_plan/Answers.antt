use Rattle.std.proofs.Common.{◌≡◌, Err, List, refl, rules, subst}
use Rattle.action_tables.specs.Written.{AppendsPrefix}
use Rattle.reset_model.specs.declared.event.Event.{Event}
use Rattle.script_replay.specs.declared.status.RunStop.TheVariants.{WriteFailed}
use Rattle.script_replay.specs.declared.status.Status.TheVariants.{Good}
use Rattle.reset_service.specs.Planned.{recovery_text}
use Rattle.reset_service.proofs.planned.answer_plan.Goals as goal

pub returns-in_err-put_recovery-clause-leaves : goal.returns-in_err-put_recovery-clause-leaves
returns-in_err-put_recovery-clause-leaves g c =
    let residual = c.from_residual in
    let failed : residual.result ≡ Err WriteFailed = search (rules, residual.ensures) in
    let repairs : List Event = c.args.plan.now.repairs.items in
    let reset : List Event = c.args.plan.now.reset.items in
    let written : List Event → List Event → Type 0 =
    λ first then. AppendsPrefix (g.W.Write.contents c.args.out.now) (g.W.Write.contents c.put_recovery.new.out)
    (recovery_text first then) in
    let half = subst (λ es. written es c.deref-2.result.now) c.deref.ensures.value c.in_err-put_recovery.ensures.err in
    rw failed ((recovery_text repairs reset, Good), refl, subst (λ es. written repairs es) c.deref-2.ensures.value half)
