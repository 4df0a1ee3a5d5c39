-- How many tokens there are.
use Rattle.std.specs.Prelude.{ℕ, ◌+◌, if◌then◌else◌}
use Rattle.std.specs.List.{count_by}
use Rattle.topology.specs.Graph.{Graph, neighbours_of}
use Rattle.app_token.specs.OneToken.{flights, holders}
use Rattle.app_token.specs.TokenLinks.{is_in_flight}
use Rattle.app_token.specs.declared.local.TokenLocal.{TokenLocal}

-- the nodes that hold one, and the bits that are in flight, in both directions of each link
abbrev pub token_count : Graph → (ℕ → TokenLocal) → ℕ
token_count g v = holders g v + flights g v

-- the tokens of one node: the one that it holds, and those that are in flight to it
abbrev pub tokens_at : Graph → (ℕ → TokenLocal) → ℕ → ℕ
tokens_at g v b = (if (v b).hold then 1 else 0) + count_by (λ a. is_in_flight a b (v a) (v b)) (neighbours_of g b)
