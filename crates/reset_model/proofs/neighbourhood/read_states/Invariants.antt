use Rattle.std.proofs.Common.{◌≡◌, filter, map, take}
use Rattle.app_interface.specs.Views.{seen_values}
use Rattle.reset_model.specs.Actions.{reads_near}
use Rattle.reset_model.proofs.neighbourhood.read_states.Given as goal

-- what the case reads of those before the index
abbrev pub invariant-loop-other : goal.invariant-loop-other
invariant-loop-other g l =
    seen_values l.seen.items
    ≡ map (λ n. (n.id, n.local)) (filter (λ n. reads_near l.reads l.with n.id) (take l.other-index l.near))
