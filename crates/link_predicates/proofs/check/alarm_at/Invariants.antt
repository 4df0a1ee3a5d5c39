use Rattle.std.proofs.Common.{◌≡◌, drop, find, flat_map}
use Rattle.reset_machine.proofs.NearSeen.{at_indexes}
use Rattle.reset_model.specs.View.{near_of}
use Rattle.link_predicates.specs.Faults.{is_of_app, link_faults}
use Rattle.link_predicates.proofs.check.alarm_at.Given as goal

-- the first is looked for among the faults of the links that are left
abbrev pub invariant-loop-near : goal.invariant-loop-near
invariant-loop-near g l =
    let app = g.P.Application.app in
    let ids = l.config.graph.ids in
    find is_of_app
    (flat_map (link_faults app l.limits.k l.limits.modulus l.own) (at_indexes (near_of app l.config) ids (drop l.near-index l.near-items)))
    ≡ find is_of_app (flat_map (link_faults app l.limits.k l.limits.modulus l.own) (at_indexes (near_of app l.config) ids l.near-items))
