use Rattle.std.proofs.Common.{[], ◌∷◌, Ok, sym, subst, ap, ap₂, ◌∙◌}
use Rattle.reset_model.specs.declared.step.Done.TheVariants.{Did}
use Rattle.reset_model.specs.Planned.{after_effect}
use Rattle.reset_model.specs.View.{IsSeen}
use Rattle.reset_model.proofs.Deciding.{put-planned}
use Rattle.reset_machine.proofs.StepClauses.{done_step}
use Rattle.reset_machine.proofs.StepShadows.{sound_step}
use Rattle.reset_machine.proofs.Writing.{at_id}
use Rattle.reset_machine.proofs.config.Config.carry_out.Goals as goal

pub returns-clause-ok : goal.returns-clause-ok
returns-clause-ok g c =
    let app = g.P.Application.app in
    let now = c.args.self.now in
    let seen = subst (IsSeen app now) c.seen_view.ensures c.in-Some.ensures.seen in
    let at = at_id now now _ _ c.in-Some.ensures.place ∙ ap (λ v. v.id) c.seen_view.ensures in
    let written = c.write.ensures ∙ ap (λ i. after_effect now i c.into_parts-view.result.1) at in
    let is =
    put-planned app now c.args.plan.view c.args.plan.event c.into_parts-view.result.1 c.args.plan.reply seen
    c.into_parts-view.ensures.effect ∙ ap₂ (λ d r. Ok (d, r)) (sym written) (sym c.reply-reply.ensures) in (
      done_step app now c.write.new.self c.args.plan.event c.lemma_is_graph.ensures.graph
          c.lemma_is_graph.ensures.shaped
          (Ok c.reply-reply.result) is,
      c.reply-reply.ensures,
    )

pub returns-clause-outcome : goal.returns-clause-outcome
returns-clause-outcome g c =
    let app = g.P.Application.app in
    let now = c.args.self.now in
    let seen = subst (IsSeen app now) c.seen_view.ensures c.in-Some.ensures.seen in
    let at = at_id now now _ _ c.in-Some.ensures.place ∙ ap (λ v. v.id) c.seen_view.ensures in
    let written = c.write.ensures ∙ ap (λ i. after_effect now i c.into_parts-view.result.1) at in
    put-planned app now c.args.plan.view c.args.plan.event c.into_parts-view.result.1 c.args.plan.reply seen
    c.into_parts-view.ensures.effect ∙ ap₂ (λ d r. Ok (d, r)) (sym written) (sym c.reply-reply.ensures)

pub returns-clause-lawful : goal.returns-clause-lawful
returns-clause-lawful g c =
    let app = g.P.Application.app in
    let now = c.args.self.now in
    let new = c.write.new.self in
    let e = c.args.plan.event in
    let graph = c.lemma_is_graph.ensures.graph in
    let shaped = c.lemma_is_graph.ensures.shaped in
    let seen = subst (IsSeen app now) c.seen_view.ensures c.in-Some.ensures.seen in
    let at = at_id now now _ _ c.in-Some.ensures.place ∙ ap (λ v. v.id) c.seen_view.ensures in
    let written = c.write.ensures ∙ ap (λ i. after_effect now i c.into_parts-view.result.1) at in
    let is =
    put-planned app now c.args.plan.view e c.into_parts-view.result.1 c.args.plan.reply seen c.into_parts-view.ensures.effect
    ∙ ap₂ (λ d r. Ok (d, r)) (sym written) (sym c.reply-reply.ensures) in
    sound_step app g.P.Application.Inv now new e
    (λ reply sound run. c.runs_are_steps.ensures now new (e ∷ []) (Did reply ∷ []) graph shaped.modulus sound run)
    graph shaped (Ok c.reply-reply.result) is
