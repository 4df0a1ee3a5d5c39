-- The nearest of the names that were passed.
use Rattle.std.proofs.Common.{◌≡◌, ℕ, ◌+◌, ◌<◌, ◌≤◌, List, [], ◌∷◌, All, Contains, length, take, get_or, Option}
use Rattle.std.proofs.Common.{Some, None, map, refl, sym, subst, arith}
use Rattle.std.proofs.lemmas.List.{get_or-map, length-map, take_more}
use Rattle.std.proofs.lemmas.List.Elements.{All-more, All-weaker, Contains-append_left, Contains-push}
use Rattle.diagnoses.specs.Nearest.{edits}

-- what was found among these names: one that is so near, or none so far
abbrev IsFound : List (List ℕ) → List ℕ → Option (List ℕ) → ℕ → Type 0
IsFound names word (Some name) least = Contains names name × (edits word name ≡ least) × (least ≤ 2)
IsFound names word None least = least ≡ 3

-- and none of them is nearer
pub record IsSoFar (names : List (List ℕ)) (word : List ℕ) (found : Option (List ℕ)) (least : ℕ) : Type 0 where
  pub all : All (λ name. least ≤ edits word name) names
  pub found_is : IsFound names word found least

module _ (names : List (List ℕ)) (word : List ℕ) (i : ℕ) (within : i < length names) where
  found_on : (found : Option (List ℕ)) (least : ℕ) → IsFound (take i names) word found least
      → IsFound (take (i + 1) names) word found least
  found_on (Some name) least (among, is, few) = (
    subst (λ passed. Contains passed name) (sym (take_more names i [] within))
        (Contains-append_left (take i names) (get_or names i [] ∷ []) name among),
    is,
    few,
  )
  found_on None least is = is

  pub further : (found : Option (List ℕ)) (least : ℕ) → IsSoFar (take i names) word found least
      → least ≤ edits word (get_or names i []) → IsSoFar (take (i + 1) names) word found least
  further found least so_far far = record {
    all = All-more (λ name. least ≤ edits word name) names i [] within so_far.all far;
    found_is = found_on found least so_far.found_is;
  }

  pub nearer : (found : Option (List ℕ)) (least : ℕ) → IsSoFar (take i names) word found least
      → edits word (get_or names i []) < least
      → IsSoFar (take (i + 1) names) word (Some (get_or names i [])) (edits word (get_or names i []))
  nearer found least so_far near = record {
    all =
        All-more (λ name. edits word (get_or names i []) ≤ edits word name) names i [] within
        (All-weaker (λ name. least ≤ edits word name) (λ name. edits word (get_or names i []) ≤ edits word name)
        (λ name far. omega (arith, near, far)) (take i names) so_far.all) (omega (arith));
    found_is = (
      subst (λ passed. Contains passed (get_or names i [])) (sym (take_more names i [] within))
          (Contains-push (take i names) (get_or names i [])),
      refl,
      few found least so_far.found_is near,
    );
  }
    where
      few : (f : Option (List ℕ)) (l : ℕ) → IsFound (take i names) word f l → edits word (get_or names i []) < l
          → edits word (get_or names i []) ≤ 2
      few (Some name) l (among, is, small) less = omega (arith, small, less)
      few None l is less = omega (arith, is, less)

-- the same of names that are lent
module _ {X : Type 0} (f : X → List ℕ) (xs : List X) (word : List ℕ) (i : ℕ) (d : X) (within : i < length xs) where
  at : get_or (map f xs) i [] ≡ f (get_or xs i d)
  at = get_or-map f xs i d [] within

  among : i < length (map f xs)
  among = subst (λ n. i < n) (sym (length-map xs f)) within

  pub further_lent : (found : Option (List ℕ)) (least : ℕ) → IsSoFar (take i (map f xs)) word found least
      → least ≤ edits word (f (get_or xs i d)) → IsSoFar (take (i + 1) (map f xs)) word found least
  further_lent found least so_far far =
      further (map f xs) word i among found least so_far (subst (λ name. least ≤ edits word name) (sym at) far)

  pub nearer_lent : (found : Option (List ℕ)) (least : ℕ) → IsSoFar (take i (map f xs)) word found least
      → edits word (f (get_or xs i d)) < least
      → IsSoFar (take (i + 1) (map f xs)) word (Some (f (get_or xs i d))) (edits word (f (get_or xs i d)))
  nearer_lent found least so_far near =
      subst (λ name. IsSoFar (take (i + 1) (map f xs)) word (Some name) (edits word name)) at
      (nearer (map f xs) word i among found least so_far (subst (λ name. edits word name < least) (sym at) near))
