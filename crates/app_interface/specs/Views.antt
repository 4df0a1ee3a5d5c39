-- What an action reads of the neighbours, and which of them it names.
use Rattle.std.specs.Prelude.{ℕ, ◌==◌, if◌then◌else◌, List, [], ◌∷◌, Option, Some, None, map, option_and_then}
use Rattle.app_interface.specs.Ids.{is_id}
use Rattle.app_interface.specs.declared.view.Seen.{Seen}

-- the neighbours that are seen, each with its local state
abbrev pub seen_values : {L : Type 0} → List (Seen L) → List (ℕ × L)
seen_values near = map (λ s. (s.id, s.local.now)) near

-- what is seen of j, the first where there are several
abbrev pub seen_at : {L : Type 0} → ℕ → List (ℕ × L) → Option L
seen_at j [] = None
seen_at j (near ∷ rest) = if near.0 == j then Some near.1 else seen_at j rest

-- the neighbour that is named, where its number is an identifier
abbrev pub named_id : Option ℕ → Option ℕ
named_id None = None
named_id (Some j) = if is_id j then Some j else None

-- what an action leaves toward that neighbour, nothing where there is none
abbrev pub toward : {A : Type 0} → Option ℕ → (ℕ → Option A) → Option A
toward with leaves = option_and_then leaves (named_id with)
