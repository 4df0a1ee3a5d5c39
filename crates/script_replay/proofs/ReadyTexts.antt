-- The line of the nodes that have something to do, piece by piece.
use Rattle.std.specs.Prelude.{codes}
use Rattle.std.proofs.Common.{◌≡◌, ◌≢◌, ℕ, List, [], ◌∷◌, ◌++◌, refl}
use Rattle.std.specs.List.{flat_map}
use Rattle.script_replay.specs.Output.{ready_text, spaced}

pub ready_some : (ids : List ℕ) → ids ≢ [] → ready_text ids ≡ codes "ready" ++ (flat_map spaced ids ++ codes "\n")
ready_some [] some = absurd (some refl)
ready_some (id ∷ ids) some = refl
