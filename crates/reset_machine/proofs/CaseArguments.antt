-- The cases that a node can take, put into a set one after another; the neighbours tried for a
-- case; and whether there is anything to do.
use Rattle.std.proofs.Common.{◌≡◌, ℕ, zero, suc, ◌+◌, ◌-◌, ◌<◌, ◌≤◌, ◌==◌, ◌||◌, Bool, true, false, cond, List, [], ◌∷◌}
use Rattle.std.proofs.Common.{◌++◌, map, filter, length, drop, slice_index, drop-cons, add-one, append_assoc}
use Rattle.std.proofs.Common.{append-nil, Option, Some, refl, sym, ap, ◌∙◌, arith}
use Rattle.std.specs.List.{list_any, range_with_len}
use Rattle.std.proofs.lemmas.Bool.{and_parts, eq-eqb, false≢true}
use Rattle.action_tables.specs.Numbers.{all_cases, with_number}
use Rattle.action_tables.specs.LawsOfNumbers.{Each}
use Rattle.action_tables.proofs.NumberSets.{insert-more}
use Rattle.topology.specs.Graph.{has}
use Rattle.topology.proofs.Membership.{has-filter}

-- the cases from n on
unfoldable pub cases_from : ℕ → List ℕ
cases_from n = range_with_len n (17 - n)

pub all_from_1 : cases_from 1 ≡ all_cases
unfolding cases_from all_cases
all_from_1 = refl

pub cases_next : (n : ℕ) → n ≤ 16 → cases_from n ≡ n ∷ cases_from (n + 1)
unfolding cases_from
cases_next n low =
    let more : 17 - n ≡ suc (17 - (n + 1)) = omega arith in
    ap (λ k. range_with_len n k) more

pub cases_end : (n : ℕ) → 16 < n → cases_from n ≡ []
unfolding cases_from
cases_end n high =
    let none : 17 - n ≡ 0 = omega arith in
    ap (λ k. range_with_len n k) none

-- the cases before n are in the set where they pass, and of those from n on it has none
pub record AreTaken (p : ℕ → Bool) (n : ℕ) (set : List ℕ) : Type 0 where
  pub parts : set ++ filter p (cases_from n) ≡ filter p all_cases
  pub below : Each (λ m. m < n) set

-- a number above all others goes to the end
insert_last : (ns : List ℕ) (n : ℕ) → Each (λ m. m < n) ns → with_number n ns ≡ ns ++ n ∷ []
insert_last [] n h = refl
insert_last (m ∷ ns) n h = insert-more n m ns h.0 ∙ ap (λ l. m ∷ l) (insert_last ns n h.1)

each_below : (n : ℕ) (ns : List ℕ) → Each (λ m. m < n) ns → Each (λ m. m < n + 1) ns
each_below n [] all = tt
each_below n (m ∷ ns) all = let low : m < n = all.0 in (omega arith, each_below n ns all.1)

each_more : (n : ℕ) (ns : List ℕ) → Each (λ m. m < n) ns → Each (λ m. m < n + 1) (ns ++ n ∷ [])
each_more n [] all = (omega arith, tt)
each_more n (m ∷ ns) all = let low : m < n = all.0 in (omega arith, each_more n ns all.1)

pub taken_first : (p : ℕ → Bool) (set : List ℕ) → set ≡ [] → AreTaken p 1 set
taken_first p set none = rw none (record { parts = ap (filter p) all_from_1; below = tt })

pub taken_more : (p : ℕ → Bool) (n : ℕ) (set more : List ℕ) → n ≤ 16 → p n ≡ true → more ≡ with_number n set
    → AreTaken p n set → AreTaken p (n + 1) more
taken_more p n set more low passes put so_far =
    let rest = filter p (cases_from (n + 1)) in
    let last = put ∙ insert_last set n so_far.below in
    rw last (record {
      parts = append_assoc set (n ∷ []) rest
          ∙ ap (λ l. set ++ l) (sym (ap (filter p) (cases_next n low) ∙ ap (λ b. cond b (n ∷ rest) rest) passes))
          ∙ so_far.parts;
      below = each_more n set so_far.below;
    })

pub taken_same : (p : ℕ → Bool) (n : ℕ) (set : List ℕ) → n ≤ 16 → p n ≡ false → AreTaken p n set
    → AreTaken p (n + 1) set
taken_same p n set low fails so_far =
    let rest = filter p (cases_from (n + 1)) in
    record {
      parts = ap (λ l. set ++ l) (sym (ap (filter p) (cases_next n low) ∙ ap (λ b. cond b (n ∷ rest) rest) fails))
          ∙ so_far.parts;
      below = each_below n set so_far.below;
    }

pub taken_all : (p : ℕ → Bool) (n : ℕ) (set : List ℕ) → 16 < n → AreTaken p n set → set ≡ filter p all_cases
taken_all p n set high so_far =
    sym (append-nil set) ∙ ap (λ l. set ++ filter p l) (sym (cases_end n high)) ∙ so_far.parts

-- some of the ids at these indexes passes, as the choice of a neighbour
abbrev pub any_near : List ℕ → (Option ℕ → Bool) → List ℕ → Bool
any_near ids q near = list_any q (map (λ j. Some j) (map (λ n. slice_index ids n) near))

any-drop : (ids : List ℕ) (q : Option ℕ → Bool) (near : List ℕ) (i : ℕ) → i < length near →
    any_near ids q (drop i near)
    ≡ (q (Some (slice_index ids (slice_index near i))) || any_near ids q (drop (i + 1) near))
any-drop ids q near i short = rw (drop-cons near i 0, add-one) refl

pub any_here : (ids : List ℕ) (q : Option ℕ → Bool) (near : List ℕ) (i id : ℕ) (all : Bool) → i < length near
    → slice_index ids (slice_index near i) ≡ id → q (Some id) ≡ true → any_near ids q (drop i near) ≡ all → true ≡ all
any_here ids q near i id all short at passes so_far =
    let rest = any_near ids q (drop (i + 1) near) in
    sym (any-drop ids q near i short ∙ ap (λ k. q (Some k) || rest) at ∙ ap (λ b. b || rest) passes) ∙ so_far

pub any_later : (ids : List ℕ) (q : Option ℕ → Bool) (near : List ℕ) (i id : ℕ) (all : Bool) → i < length near
    → slice_index ids (slice_index near i) ≡ id → q (Some id) ≡ false → any_near ids q (drop i near) ≡ all
    → any_near ids q (drop (i + 1) near) ≡ all
any_later ids q near i id all short at fails so_far =
    let rest = any_near ids q (drop (i + 1) near) in
    sym (any-drop ids q near i short ∙ ap (λ k. q (Some k) || rest) at ∙ ap (λ b. b || rest) fails) ∙ so_far

has-map : (f : ℕ → ℕ) (near : List ℕ) (i : ℕ) → i < length near → has (map f near) (f (slice_index near i)) ≡ true
has-map f [] i short = absurd (omega arith)
has-map f (n ∷ ns) zero short = ap (λ b. b || has (map f ns) (f n)) (eq-eqb (f n) (f n) refl)
has-map f (n ∷ ns) (suc i) short = either (f n == f (slice_index ns i)) _ (has-map f ns i (omega arith))
  where
    either : (b d : Bool) → d ≡ true → (b || d) ≡ true
    either true d is = refl
    either false d is = is

-- each of those at the indexes passes the test that all passed
pub near_passes : (ids : List ℕ) (p : ℕ → Bool) (near xs : List ℕ) (i : ℕ)
    → map (λ n. slice_index ids n) near ≡ filter p xs → i < length near
    → p (slice_index ids (slice_index near i)) ≡ true
near_passes ids p near xs i are short =
    let c = slice_index ids (slice_index near i) in
    (and_parts (p c) (has xs c)
    (sym (has-filter p xs c) ∙ ap (λ js. has js c) (sym are) ∙ has-map (λ n. slice_index ids n) near i short)).0

-- whether one of three holds, by whether one of the first two does
pub or_left : (v a b d : Bool) → v ≡ (a || b) → v ≡ true → v ≡ (a || (b || d))
or_left v true b d both is = both
or_left v false true d both is = both
or_left v false false d both is = absurd (false≢true (sym both ∙ is))

pub or_right : (v a b d : Bool) → v ≡ (a || b) → v ≡ false → d ≡ (a || (b || d))
or_right v true b d both is = absurd (false≢true (sym is ∙ both))
or_right v false true d both is = absurd (false≢true (sym is ∙ both))
or_right v false false d both is = refl
