use Rattle.std.proofs.Common.{◌≡◌, ◌≢◌, Err, MatchResult, Ok, rules, subst}
use Rattle.reset_model.specs.declared.step.StepRefusal.TheVariants.{NoMemory}
use Rattle.node_choices.proofs.Allowing.{row_is_planned}
use Rattle.node_choices.proofs.sight.Sight.does.Goals as goal

pub returns-in-Request : goal.returns-in-Request
returns-in-Request g c = record {
  exact = subst
      (λ p. MatchResult c.row_does-in-Request.result (λ does. p ≡ Ok does) (λ f. f ≢ NoMemory → p ≡ Err f))
      (row_is_planned g.P.Application.app c.args.event c.self.view_is c.id.ensures c.node.ensures c.named.ensures
      c.sees.ensures c.self.invariant.wave_is (search rules) (search rules) c.in-Request.is)
      c.row_does-in-Request.ensures.exact;
}
