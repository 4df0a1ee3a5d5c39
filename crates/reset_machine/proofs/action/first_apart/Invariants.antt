use Rattle.std.proofs.Common.{◌≡◌, drop, filter, map, slice_index}
use Rattle.reset_model.specs.Actions.{first_apart, reads_near}
use Rattle.reset_model.specs.Configuration.{wave_of}
use Rattle.reset_machine.proofs.action.first_apart.Given as goal

-- the first of the neighbours that are left is the first of all
abbrev pub invariant-loop-near : goal.invariant-loop-near
invariant-loop-near g l =
    let w = wave_of l.place.config in
    let ids = l.place.config.graph.ids in
    first_apart w l.place.id
    (filter (reads_near l.reads l.with) (map (λ n. slice_index ids n) (drop l.near-index l.near-items)))
    ≡ first_apart w l.place.id (filter (reads_near l.reads l.with) (map (λ n. slice_index ids n) l.near-items))
