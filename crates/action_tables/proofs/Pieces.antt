-- Texts that are written piece by piece.
use Rattle.std.proofs.Common.{◌≡◌, ℕ, zero, suc, ◌+◌, ◌<◌, List, [], ◌∷◌, ◌++◌, refl, sym, ap, ◌∙◌, append_assoc}
use Rattle.std.proofs.Common.{append-nil, add-one, arith, length, take, drop, get_or, Option}
use Rattle.std.specs.List.{flat_map}
use Rattle.std.specs.Io.KnownBytes.{Appends}
use Rattle.std.proofs.KnownBytes.{Appends-trans}
use Rattle.action_tables.specs.Written.{AppendsPrefix}
use Rattle.action_tables.proofs.Prefixes.{AppendsPrefix-first, AppendsPrefix-then}

pub flat_map_at : {X : Type 0} (f : X → List ℕ) (xs : List X) (i : ℕ) (d : X) → i < length xs
    → flat_map f xs ≡ flat_map f (take i xs) ++ (f (get_or xs i d) ++ flat_map f (drop (suc i) xs))
flat_map_at f [] i d h = absurd (omega arith)
flat_map_at f (x ∷ xs) zero d h = refl
flat_map_at f (x ∷ xs) (suc i) d h =
    ap (λ l. f x ++ l) (flat_map_at f xs i d (omega arith)) ∙ sym (append_assoc (f x) _ _)

-- the pieces before the i-th were written, and the i-th failed
pub AppendsPrefix-piece : {X : Type 0} (a b c : Option (List ℕ)) (f : X → List ℕ) (xs : List X) (i : ℕ) (d : X)
    → i < length xs
    → Appends a b (flat_map f (take i xs)) → AppendsPrefix b c (f (get_or xs i d)) → AppendsPrefix a c (flat_map f xs)
AppendsPrefix-piece a b c f xs i d h before here =
    rw (flat_map_at f xs i d h)
    (AppendsPrefix-then a b c (flat_map f (take i xs)) (f (get_or xs i d) ++ flat_map f (drop (suc i) xs)) before
    (AppendsPrefix-first b c (f (get_or xs i d)) (flat_map f (drop (suc i) xs)) here))

-- one piece more
pub flat_map_next : {X : Type 0} (f : X → List ℕ) (xs : List X) (i : ℕ) (d : X) → i < length xs
    → flat_map f (take (suc i) xs) ≡ flat_map f (take i xs) ++ f (get_or xs i d)
flat_map_next f [] i d h = absurd (omega arith)
flat_map_next f (x ∷ xs) zero d h = append-nil (f x)
flat_map_next f (x ∷ xs) (suc i) d h =
    ap (λ l. f x ++ l) (flat_map_next f xs i d (omega arith)) ∙ sym (append_assoc (f x) _ _)

-- the pieces before the i-th were written, and then the i-th
pub Appends-piece : {X : Type 0} (a b c : Option (List ℕ)) (f : X → List ℕ) (xs : List X) (i : ℕ) (d : X)
    → i < length xs
    → Appends a b (flat_map f (take i xs)) → Appends b c (f (get_or xs i d))
    → Appends a c (flat_map f (take (i + 1) xs))
Appends-piece a b c f xs i d h before here =
    rw (add-one, flat_map_next f xs i d h)
    (Appends-trans a b c (flat_map f (take i xs)) (f (get_or xs i d)) before here)
