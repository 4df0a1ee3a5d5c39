-- Nodes by their ids, with their registers.
use Rattle.std.specs.Prelude.{ℕ, ◌==◌, List, Option, map}
use Rattle.std.specs.Map.{lookup}

-- the registers of the node with this id, None where there is no such node
abbrev pub regs_of : {R : Type 0} → ℕ → List (ℕ × R) → Option R
regs_of id nodes = lookup (λ other. other == id) nodes

-- the ids of the nodes
abbrev pub ids_of : {R : Type 0} → List (ℕ × R) → List ℕ
ids_of nodes = map (λ node. node.0) nodes
