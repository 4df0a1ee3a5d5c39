use Rattle.std.proofs.Common.{cond, sym, ap, ap₂, ◌∙◌}
use Rattle.reset_model.specs.declared.plan.Seen.TheVariants.{Tree, Wave}
use Rattle.reset_model.specs.LocalSteps.{cases_of, first_fired}
use Rattle.reset_model.specs.Steps.{named_node}
use Rattle.reset_model.specs.View.{tree_view, wave_view}
use Rattle.reset_model.proofs.Planned.{exact_of}
use Rattle.reset_model.proofs.decide.wave_row.Goals as goal

pub returns : goal.returns
returns g c =
    let v = c.args.view.now in
    let e = c.args.event in
    let layer =
    ap (λ b. first_fired (cond b (Tree (tree_view v)) (Wave (wave_view v))) (named_node e) (cases_of e)) c.requires
    in
    let rows = ap₂ (λ n cs. first_fired (Wave (wave_view v)) n cs) (sym c.named.ensures) (sym c.cases.ensures) in
    let seen = ap (λ s. first_fired s c.named.result c.cases.result.now) (sym c.wave_seen.ensures) in
    record { exact = exact_of _ _ (layer ∙ rows ∙ seen ∙ sym c.first_fired.ensures) }
