-- The invariant of the token: there is one, held by a node or on its way over a link.
use Rattle.std.specs.Prelude.{◌≡◌, ℕ, ◌+◌, ◌&&◌, Bool}
use Rattle.std.specs.List.{count_by, sum_by}
use Rattle.topology.specs.Graph.{Graph, are_linked}
use Rattle.app_token.specs.TokenLinks.{is_in_flight}
use Rattle.app_token.specs.declared.local.TokenLocal.{TokenLocal}

-- a bit is in flight over a link from a to b
abbrev pub in_flight : Graph → (ℕ → TokenLocal) → ℕ → ℕ → Bool
in_flight g v a b = are_linked g a b && is_in_flight a b (v a) (v b)

-- how many nodes hold the token
abbrev pub holders : Graph → (ℕ → TokenLocal) → ℕ
holders g v = count_by (λ a. (v a).hold) g.nodes

-- how many bits are in flight, over all links and in both directions
abbrev pub flights : Graph → (ℕ → TokenLocal) → ℕ
flights g v = sum_by (λ a. count_by (λ b. in_flight g v a b) g.nodes) g.nodes

abbrev pub HasOneToken : Graph → (ℕ → TokenLocal) → Type 0
HasOneToken g v = holders g v + flights g v ≡ 1
