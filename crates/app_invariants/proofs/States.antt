-- The state of an identifier stands at its index.
use Rattle.std.proofs.Common.{◌≡◌, ℕ, ◌<◌, List, length, get_or, ap, ◌∙◌}
use Rattle.std.proofs.lemmas.List.{get_or-map}
use Rattle.topology.specs.Graph.{Graph}
use Rattle.app_invariants.specs.States.{AreStates}

pub state_at : {L : Type 0} (g : Graph) (v : ℕ → L) (states : List L) → AreStates g v states → (k : ℕ) (x : L)
    → k < length g.ids → get_or states k x ≡ v (get_or g.ids k 0)
state_at g v states are k x lt = ap (λ xs. get_or xs k x) are ∙ get_or-map v g.ids k 0 x lt
