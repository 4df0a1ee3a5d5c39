-- What an application means, and what one action of it does.
use Rattle.std.specs.Prelude.{◌≡◌, ℕ, ◌==◌, Bool, false, if◌then◌else◌, List, [], ◌∷◌, Option, Some, None}
use Rattle.topology.specs.Graph.{Graph, IsNode, AreLinked, Changes, are_linked}
use Rattle.app_interface.specs.declared.reads.Reads.{Reads}
use Rattle.app_interface.specs.declared.reads.Reads.TheVariants.{Alone, Toward, One, All}

-- the meaning of an application with local states L
pub record App (L : Type 0) : Type 0 where
  -- how many cases there are
  pub count : ℕ
  -- what a case reads
  pub reads : ℕ → Option Reads
  -- the declared start state of an identifier
  pub start : Graph → ℕ → L
  -- the state that a case leaves, where it is enabled: from the node's identifier, K, the case, the
  -- named neighbour, the node's own state, and the states that it reads
  pub next : ℕ → ℕ → ℕ → Option ℕ → L → List (ℕ × L) → Option L
  -- the least failing row of the link table, asked at one end of a link: from the node's identifier, K,
  -- the node's own state, the neighbour's identifier, and the neighbour's state
  pub link_fault : ℕ → ℕ → L → ℕ → L → Option ℕ

-- whether a case at node i, with this choice of a neighbour, reads j
abbrev pub is_read : Graph → ℕ → Option Reads → Option ℕ → ℕ → Bool
is_read g i (Some All) with j = are_linked g i j
is_read g i (Some One) (Some k) j = j == k
is_read g i _ _ j = false

-- a neighbour is named where the case wants one, and none elsewhere
abbrev pub Fits : Graph → ℕ → Option Reads → Option ℕ → Type 0
Fits g i (Some Alone) None = Unit {0}
Fits g i (Some All) None = Unit {0}
Fits g i (Some Toward) (Some j) = AreLinked g i j
Fits g i (Some One) (Some j) = AreLinked g i j
Fits g i _ _ = ⊥

-- those of the ids that are read, each with what stands there
abbrev pub seen : {L : Type 0} → (ℕ → Bool) → (ℕ → L) → List ℕ → List (ℕ × L)
seen p v [] = []
seen p v (j ∷ js) = if p j then (j, v j) ∷ seen p v js else seen p v js

-- the case at node i, with this choice of a neighbour, takes the local states v to v'
pub record Action {L : Type 0} (app : App L) (g : Graph) (K i case : ℕ) (with : Option ℕ) (v v' : ℕ → L) : Type 0 where
  pub node : IsNode g i
  pub fits : Fits g i (app.reads case) with
  pub new : L
  pub next : app.next i K case with (v i) (seen (is_read g i (app.reads case) with) v g.ids) ≡ Some new
  pub changes : Changes g v i new v'
