-- The local states of all identifiers, as a list.
use Rattle.std.specs.Prelude.{◌≡◌, ℕ, List, map}
use Rattle.topology.specs.Graph.{Graph}

-- the states of the identifiers, up or down, in their order
abbrev pub AreStates : {L : Type 0} → Graph → (ℕ → L) → List L → Type 0
AreStates g v states = states ≡ map v g.ids
