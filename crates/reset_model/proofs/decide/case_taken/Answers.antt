use Rattle.std.proofs.Common.{ap, ◌∙◌}
use Rattle.app_interface.specs.Views.{seen_values}
use Rattle.reset_model.proofs.Deciding.{case_taken-next}
use Rattle.reset_model.proofs.Judging.{judged-ends}
use Rattle.reset_model.proofs.decide.case_taken.Goals as goal

pub returns : goal.returns
returns g c =
    let app = g.P.Application.app in
    let v = c.args.view.now in
    let next =
    case_taken-next app v c.args.arguments.case c.args.arguments.with c.reads-reads.result
    c.neighbours-near.result.now _
    _ _ _ _
    c.reads-reads.ensures c.neighbours-near.ensures.value (ap (λ r. r.session) c.wave.ensures) c.id.ensures c.k.ensures
    c.local.ensures
    c.in_default.ensures c.in_default-first_apart.ensures (ap seen_values c.deref.ensures.value ∙ c.in_ok-seen.ensures)
    in
    record { exact = judged-ends _ c.on_clock.result _ next c.on_clock.ensures.exact }
