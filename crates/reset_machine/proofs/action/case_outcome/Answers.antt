use Rattle.std.proofs.Common.{ap, refl, ◌∙◌}
use Rattle.app_interface.specs.Views.{seen_values}
use Rattle.topology.specs.Graph.{node_bound}
use Rattle.reset_model.specs.Configuration.{local_of, wave_of}
use Rattle.reset_model.proofs.Judging.{outcome-next, judged-ends}
use Rattle.reset_machine.proofs.action.case_outcome.Goals as goal

pub returns : goal.returns
returns g c =
    let place = c.args.place.now in
    let config = place.config in
    let app = g.P.Application.app in
    let next =
    outcome-next app config.graph (node_bound config.graph) (wave_of config) (local_of app config) place.id
    c.args.arguments.case c.args.arguments.with c.reads-reads.result c.here.result.id c.here.result.k c.local.result.now
    (seen_values c.deref.result.now) _
    c.reads-reads.ensures c.in_default.ensures c.in_default-first_apart.ensures c.here.ensures.id c.here.ensures.bound
    c.local.ensures (ap seen_values c.deref.ensures.value ∙ c.in-Ok.ensures) refl in
    record { exact = judged-ends _ c.on_clock.result _ next c.on_clock.ensures.exact }
