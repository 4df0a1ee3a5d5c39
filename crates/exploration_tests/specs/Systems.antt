-- Small systems, whose counts are known.
use Rattle.std.specs.Prelude.{◌≡◌, ℕ, ◌+◌, ◌%◌, List, [], ◌∷◌, ◌++◌, length, map, slice_index, slice_get, Option, None, Some, if◌then◌else◌, nat_lt, Bool, true, false, All, refl}
use Rattle.std.specs.declared.vec.Vec.{Vec}
use Rattle.std.specs.declared.alloc.Global.{Global}
use Rattle.std.proofs.lemmas.List.Elements.{All-nil, All-cons, All-append, All-from_recursion, All-from_get_or}

-- so many words
abbrev pub HasWords : ℕ → List ℕ → Type 0
HasWords n s = length s ≡ n

-- one or two added, modulo the size
abbrev pub counted : ℕ → List ℕ → List (List ℕ)
counted size s = ((slice_index s 0 + 1) % size ∷ []) ∷ ((slice_index s 0 + 2) % size ∷ []) ∷ []

pub counted_keeps : (size : ℕ) (s : List ℕ) → All (HasWords 1) (counted size s)
counted_keeps size s = All-from_recursion (HasWords 1) (counted size s) (refl, (refl, tt))

-- the state where the test holds
abbrev pub only_if : Bool → List ℕ → List (List ℕ)
only_if test s = if test then s ∷ [] else []

-- one step right or up, as far as the side
abbrev pub grid_steps : ℕ → List ℕ → List (List ℕ)
grid_steps side s =
    only_if (nat_lt (slice_index s 0) side) ((slice_index s 0 + 1) ∷ slice_index s 1 ∷ [])
    ++ only_if (nat_lt (slice_index s 1) side) (slice_index s 0 ∷ (slice_index s 1 + 1) ∷ [])

pub only_if_keeps : (P : List ℕ → Type 0) (test : Bool) (s : List ℕ) → P s → All P (only_if test s)
only_if_keeps P test s h = elim test as (λ b. All P (only_if b s)) [ true ↦ All-cons P s [] h (All-nil P) | false ↦ All-nil P ]

pub grid_keeps : (side : ℕ) (s : List ℕ) → All (HasWords 2) (grid_steps side s)
grid_keeps side s =
    All-append (HasWords 2) _ _
    (only_if_keeps (HasWords 2) (nat_lt (slice_index s 0) side) ((slice_index s 0 + 1) ∷ slice_index s 1 ∷ []) refl)
    (only_if_keeps (HasWords 2) (nat_lt (slice_index s 1) side) (slice_index s 0 ∷ (slice_index s 1 + 1) ∷ []) refl)

-- the neighbours of a vertex
abbrev pub neighbours : Option (Vec ℕ Global) → List ℕ
neighbours None = []
neighbours (Some row) = row.items

abbrev pub graph_steps : List (Vec ℕ Global) → List ℕ → List (List ℕ)
graph_steps rows s = map (λ v. v ∷ []) (neighbours (slice_get rows (slice_index s 0)))

pub single_keeps : (vs : List ℕ) → All (HasWords 1) (map (λ v. v ∷ []) vs)
single_keeps [] = All-nil (HasWords 1)
single_keeps (v ∷ vs) = All-cons (HasWords 1) (v ∷ []) (map (λ x. x ∷ []) vs) refl (single_keeps vs)
