-- Which events of a list were applied, how often, and which joins complete a reset.
use Rattle.std.specs.Prelude.{◌≡◌, ◌≢◌, ℕ, ◌+◌, Bool, false, ◌==◌, if◌then◌else◌, List, [], ◌∷◌}
use Rattle.topology.specs.Graph.{Graph, IsReached}
use Rattle.reset_model.specs.declared.event.Event.{Event}
use Rattle.reset_model.specs.declared.event.Event.TheVariants.{Join, Open}
use Rattle.reset_model.specs.declared.step.Done.{Done}
use Rattle.reset_model.specs.declared.step.Done.TheVariants.{Did, Refused}

-- the events of a list that were applied, by what came of them
abbrev pub applied : List Event → List Done → List Event
applied [] ds = []
applied (e ∷ es) [] = []
applied (e ∷ es) (Did reply ∷ ds) = e ∷ applied es ds
applied (e ∷ es) (Refused f ∷ ds) = applied es ds

-- how often an event that passes the test stands in the list
abbrev pub times : (Event → Bool) → List Event → ℕ
times p [] = 0
times p (e ∷ es) = (if p e then 1 else 0) + times p es

abbrev pub is_open_at : ℕ → Event → Bool
is_open_at i (Open k) = k == i
is_open_at i _ = false

abbrev pub is_join_at : ℕ → Event → Bool
is_join_at i (Join k) = k == i
is_join_at i _ = false

-- in these events nobody of the component of the node top opens a session, top joins none, and each other node of
-- its component joins exactly once
pub record JoinsOnce (g : Graph) (top : ℕ) (es : List Event) : Type 0 where
  pub opens : (i : ℕ) → IsReached g top i → times (is_open_at i) es ≡ 0
  pub leader : times (is_join_at top) es ≡ 0
  pub joins : (i : ℕ) → IsReached g top i → i ≢ top → times (is_join_at i) es ≡ 1
