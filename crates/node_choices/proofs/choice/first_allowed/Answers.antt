use Rattle.std.proofs.Common.{◌∙◌, sym, find}
use Rattle.std.proofs.lemmas.Bool.{cond-false, cond-true}
use Rattle.std.proofs.lemmas.List.{at_drop_more}
use Rattle.reset_model.specs.declared.event.Event.TheVariants.{Claim}
use Rattle.node_choices.specs.Choice.{is_allowed}
use Rattle.node_choices.proofs.choice.first_allowed.Goals as goal

pub returns-then-branch : goal.returns-then-branch
returns-then-branch g c =
    let test = is_allowed g.P.Application.app c.args.sight.now in
    sym (cond-true _ _ _ (sym c.in_ok-allows.ensures ∙ c.if-branch.true))
    ∙ sym (at_drop_more (find test) c.args.events.now c.loop-event.event-index (Claim 0) c.loop-event-test.true)
    ∙ c.loop-event.invariant

pub loop-event-preserved : goal.loop-event-preserved
loop-event-preserved g c =
    let test = is_allowed g.P.Application.app c.args.sight.now in
    sym (cond-false _ _ _ (sym c.in_ok-allows.ensures ∙ c.if-branch.false))
    ∙ sym (at_drop_more (find test) c.args.events.now c.loop-event.event-index (Claim 0) c.loop-event-test.true)
    ∙ c.loop-event.invariant
