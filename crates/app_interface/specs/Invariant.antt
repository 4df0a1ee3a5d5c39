-- What holds of the local states of all nodes from a reset on.
use Rattle.std.specs.Prelude.{◌≡◌, ℕ, Option, None}
use Rattle.topology.specs.Components.{component}
use Rattle.topology.specs.Graph.{Graph, IsGraph, IsNode, IsReached, AreLinked}
use Rattle.app_interface.specs.Application.{App, Action}

-- the same at every node
abbrev pub SameAtNodes : {L : Type 0} → Graph → (ℕ → L) → (ℕ → L) → Type 0
SameAtNodes g v v' = (i : ℕ) → IsNode g i → v' i ≡ v i

-- Inv is a fact of the nodes' states that holds at the start and that each action keeps
pub record Keeps {L : Type 0} (app : App L) (g : Graph) (K : ℕ) (Inv : (ℕ → L) → Type 0) : Type 0 where
  pub same : (v v' : ℕ → L) → SameAtNodes g v v' → Inv v → Inv v'
  pub starts : Inv (app.start g)
  pub acts : (i case : ℕ) (with : Option ℕ) (v v' : ℕ → L) → Action app g K i case with v v' → Inv v → Inv v'

-- each node starts as it would if its component were the whole graph
abbrev pub StartsByComponent : {L : Type 0} → App L → Type 0
StartsByComponent app = (g : Graph) (i j : ℕ) → IsGraph g → IsNode g i → IsReached g i j
    → app.start (component g i) j ≡ app.start g j

-- where Inv holds, no row of the link table fails at either end of a link
pub record IsQuiet {L : Type 0} (app : App L) (g : Graph) (K : ℕ) (Inv : (ℕ → L) → Type 0) : Type 0 where
  pub at : (v : ℕ → L) → Inv v → (i j : ℕ) → AreLinked g i j → app.link_fault i K (v i) j (v j) ≡ None
