-- What is known of the nodes, by their indexes: which have something to do, and which have nothing.
use Rattle.std.specs.Prelude.{◌≡◌, ◌≢◌, ℕ, ◌+◌, ◌-◌, ◌<◌, ◌≤◌, ◌⊎◌, Bool, true, false, List, length, slice_index}
use Rattle.std.specs.Prelude.{slice_index_or, Option, None, Some, IsSomeAnd}
use Rattle.std.specs.List.{range_with_len}
use Rattle.std.specs.List.Sorted.{IsPermutation}
use Rattle.topology.specs.Graph.{Graph, are_linked}

-- all nodes in some order. Those before the place `ready` are known as ready, those from the place `idle` on are known
-- as idle, and those between are in doubt
pub record Standing : Type 0 where
  pub nodes : List ℕ
  pub ready : ℕ
  pub idle : ℕ

abbrev pub IsKnownReady : Standing → ℕ → Type 0
IsKnownReady s n = (place : ℕ) × (place < s.ready) × (slice_index s.nodes place ≡ n)

abbrev pub IsKnownIdle : Standing → ℕ → Type 0
IsKnownIdle s n = (place : ℕ) × (s.idle ≤ place) × (place < length s.nodes) × (slice_index s.nodes place ≡ n)

-- the parts lie in their order, and the nodes are the numbers below their count, each once
pub record IsStanding (s : Standing) : Type 0 where
  pub parts : s.ready ≤ s.idle
  pub within : s.idle ≤ length s.nodes
  pub all : IsPermutation (range_with_len 0 (length s.nodes)) s.nodes

-- of each node there is a mark, and nothing is known of one that is marked
pub record AreMarks (s : Standing) (marks : List Bool) : Type 0 where
  pub count : length marks ≡ length s.nodes
  pub ready : (n : ℕ) → slice_index_or marks n false ≡ true → IsKnownReady s n → ⊥
  pub idle : (n : ℕ) → slice_index_or marks n false ≡ true → IsKnownIdle s n → ⊥

-- what is known of the nodes is known as before, but of n nothing
pub record Doubts (old : Standing) (n : ℕ) (new : Standing) : Type 0 where
  pub count : length new.nodes ≡ length old.nodes
  pub ready : (m : ℕ) → IsKnownReady new m → IsKnownReady old m × (m ≢ n)
  pub idle : (m : ℕ) → IsKnownIdle new m → IsKnownIdle old m × (m ≢ n)

-- the node n of the graph is neither the node i nor a neighbour of it
abbrev pub IsApart : Graph → ℕ → ℕ → Type 0
IsApart g i n =
    (slice_index g.ids n ≢ slice_index g.ids i) × (are_linked g (slice_index g.ids n) (slice_index g.ids i) ≡ false)

-- what is known of the nodes is known as before, but of the node i and of its neighbours nothing
pub record DoubtsAround (g : Graph) (old : Standing) (i : ℕ) (new : Standing) : Type 0 where
  pub count : length new.nodes ≡ length old.nodes
  pub ready : (n : ℕ) → IsKnownReady new n → IsKnownReady old n × IsApart g i n
  pub idle : (n : ℕ) → IsKnownIdle new n → IsKnownIdle old n × IsApart g i n

-- the same of what is known, if anything is
abbrev pub DoubtsAnyAround : Graph → Option Standing → ℕ → Option Standing → Type 0
DoubtsAnyAround g None i new = new ≡ None
DoubtsAnyAround g (Some old) i new = IsSomeAnd new (DoubtsAround g old i)

-- nothing is known
abbrev pub DoubtsAll : Standing → Type 0
DoubtsAll s = (s.ready ≡ 0) × (s.idle ≡ length s.nodes)

-- the last node in doubt
abbrev pub last_in_doubt : Standing → ℕ
last_in_doubt s = slice_index s.nodes (s.idle - 1)

-- the last node in doubt is known as ready, or as idle, and of the others the same is known as before
pub record Settles (old : Standing) (is_ready : Bool) (new : Standing) : Type 0 where
  pub count : length new.nodes ≡ length old.nodes
  pub fewer : new.idle + old.ready + 1 ≡ old.idle + new.ready
  pub ready : (m : ℕ) → IsKnownReady new m → IsKnownReady old m ⊎ ((m ≡ last_in_doubt old) × (is_ready ≡ true))
  pub idle : (m : ℕ) → IsKnownIdle new m → IsKnownIdle old m ⊎ ((m ≡ last_in_doubt old) × (is_ready ≡ false))
