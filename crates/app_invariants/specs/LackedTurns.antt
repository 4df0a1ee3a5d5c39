-- How many nodes are in without their turns.
use Rattle.std.specs.Prelude.{ℕ, ◌&&◌, Bool, not}
use Rattle.std.specs.List.{count_by, list_all}
use Rattle.topology.specs.Graph.{Graph, neighbours_of}
use Rattle.app_mutex.specs.Turns.{holds_turn}
use Rattle.app_mutex.specs.declared.local.MutexLocal.{MutexLocal}

-- whether node i holds the turn of each of its links
abbrev pub holds_all_turns : Graph → (ℕ → MutexLocal) → ℕ → Bool
holds_all_turns g v i = list_all (λ j. holds_turn i (v i).bit j (v j).bit) (neighbours_of g i)

-- whether it is in and lacks a turn
abbrev pub is_in_without : Graph → (ℕ → MutexLocal) → ℕ → Bool
is_in_without g v i = (v i).inside && not (holds_all_turns g v i)

-- how many nodes are
abbrev pub in_without_count : Graph → (ℕ → MutexLocal) → ℕ
in_without_count g v = count_by (is_in_without g v) g.nodes
