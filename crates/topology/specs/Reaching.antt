-- What walks lead to, as a test.
use Rattle.std.specs.Prelude.{ℕ, zero, suc, Bool, ◌==◌, ◌&&◌, ◌||◌}
use Rattle.std.specs.List.{list_any}
use Rattle.topology.specs.Graph.{Graph, are_linked}

-- a walk of at most so many links leads from a to b
abbrev pub is_reached : Graph → ℕ → ℕ → ℕ → Bool
is_reached g a b zero = a == b
is_reached g a b (suc count) =
    is_reached g a b count || list_any (λ c. is_reached g a c count && are_linked g c b) g.ids
