use Rattle.std.proofs.Common.{map, option_map, take}
use Rattle.diagnoses.proofs.Nearing.{IsSoFar}
use Rattle.diagnoses.proofs.near_names.nearest.Given as goal

abbrev pub invariant-loop-name : goal.invariant-loop-name
invariant-loop-name l =
    IsSoFar (take l.name-index (map (λ name. name.now) l.names)) l.word (option_map (λ name. name.now) l.found) l.least
