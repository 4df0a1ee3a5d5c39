use Rattle.std.proofs.Common.{nat_eq, ap, ap₂, ◌∙◌}
use Rattle.reset_model.specs.declared.plan.Seen.TheVariants.{Wave}
use Rattle.reset_model.specs.View.{wave_view}
use Rattle.node_choices.specs.Sight.{enabled_in, none_but_request}
use Rattle.node_choices.proofs.sight.Sight.wave_rests.Goals as goal

pub returns : goal.returns
returns g c =
    let rows = c.self.invariant.wave_rows_are ∙ ap enabled_in c.self.invariant.wave_is
    ∙ ap (λ v. enabled_in (Wave (wave_view v))) c.self.view_is in
    ap₂ nat_eq c.count.ensures c.count_requests.ensures ∙ ap none_but_request rows
