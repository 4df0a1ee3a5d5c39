-- What a count is where the invariant holds, in both directions.
use Rattle.std.proofs.Common.{◌≡◌, ◌↔◌, ℕ, suc, ◌≤◌, Bool, true, false, true≢false, not, ◌&&◌}
use Rattle.std.proofs.Common.{List, [], ◌∷◌, get_or, Contains, refl, sym, ap, ◌∙◌, arith}
use Rattle.std.specs.List.{count_by, list_all, sum_by}
use Rattle.std.proofs.lemmas.Bool.{and_from, and_parts}
use Rattle.std.proofs.lemmas.List.Sums.{get_or-le-sum_by, sum_by-cons, AllPass-from_list_all, list_all-from_AllPass}
use Rattle.std.proofs.lemmas.List.{get_or_default}
use Rattle.topology.specs.Graph.{Graph, IsGraph, AreLinked, are_linked, has, neighbours_of}
use Rattle.topology.proofs.Membership.{has-Contains, Contains-has, has-filter}
use Rattle.app_token.specs.LawsOfSums.{number_of}
use Rattle.app_token.specs.OneToken.{HasOneToken}
use Rattle.app_token.specs.declared.local.TokenLocal.{TokenLocal}
use Rattle.app_mutex.specs.Turns.{HoldsTurns, holds_turn}
use Rattle.app_mutex.specs.declared.local.MutexLocal.{MutexLocal}
use Rattle.app_invariants.specs.LackedTurns.{holds_all_turns, is_in_without, in_without_count}
use Rattle.app_invariants.specs.Tokens.{token_count}

-- ---- sums that are 0

-- each term of a sum that is 0 is 0
pub zero_term : {X : Type 0} (f : X → ℕ) (xs : List X) (x : X) → sum_by f xs ≡ 0 → Contains xs x → f x ≡ 0
zero_term f xs x none at =
    let low : f (get_or xs at.0 x) ≤ sum_by f xs = get_or-le-sum_by f xs at.0 x at.1 in
    omega (arith, low, none, ap f at.2)

-- and a sum of terms that are 0 is 0
pub zero_sum : {X : Type 0} (f : X → ℕ) (xs : List X) → ((x : X) → Contains xs x → f x ≡ 0) → sum_by f xs ≡ 0
zero_sum f [] none = refl
zero_sum f (x ∷ xs) none =
    omega (
      arith,
      sum_by-cons f x xs,
      none x (0, omega arith, refl),
      zero_sum f xs (λ y at. none y (suc at.0, omega (arith, at.1), at.2)),
    )

-- a count is 0 where no item passes
counted_none : (b : Bool) → number_of b ≡ 0 → b ≡ false
counted_none true e = absurd (omega (arith, e))
counted_none false e = refl

pub none_counted : {X : Type 0} (p : X → Bool) (xs : List X)
    → ((count_by p xs ≡ 0) ↔ ((x : X) → Contains xs x → p x ≡ false))
none_counted p xs = (
  λ none x at. counted_none (p x) (zero_term (λ y. number_of (p y)) xs x none at),
  λ fails. zero_sum (λ y. number_of (p y)) xs (λ x at. ap number_of (fails x at)),
)

-- ---- tokens

-- there is one token exactly where one is counted
pub one_token : (g : Graph) (v : ℕ → TokenLocal) → IsGraph g → ((token_count g v ≡ 1) ↔ HasOneToken g v)
one_token g v are = (λ one. one, λ one. one)

-- ---- turns

-- a neighbour is listed exactly where there is a link to it
pub near_linked : (g : Graph) (i j : ℕ) → IsGraph g → (Contains (neighbours_of g i) j ↔ AreLinked g i j)
near_linked g i j are = (
  λ at. (and_parts (are_linked g i j) (has g.ids j)
      (sym (has-filter (are_linked g i) g.ids j) ∙ has-Contains (neighbours_of g i) j at)).0,
  λ linked. Contains-has (neighbours_of g i) j
      (has-filter (are_linked g i) g.ids j
      ∙ and_from (are_linked g i j) (has g.ids j) linked
      (has-Contains g.ids j (are.within j (are.ends j i (are.symmetric j i ∙ linked))))),
)

-- all of the list pass exactly where each item does
pub all_tells : {X : Type 0} (p : X → Bool) (xs : List X)
    → ((list_all p xs ≡ true) ↔ ((x : X) → Contains xs x → p x ≡ true))
all_tells p xs = (
  λ all x at. ap p (sym at.2) ∙ AllPass-from_list_all p xs all at.0 x at.1,
  λ each. list_all-from_AllPass p xs (λ k x lt. each (get_or xs k x) (k, lt, get_or_default xs k _ x lt)),
)

module _ (g : Graph) (v : ℕ → MutexLocal) (are : IsGraph g) where
  turns_tell : (i : ℕ)
      → ((holds_all_turns g v i ≡ true) ↔ ((j : ℕ) → AreLinked g i j → holds_turn i (v i).bit j (v j).bit ≡ true))
  turns_tell i =
      let all = all_tells (λ j. holds_turn i (v i).bit j (v j).bit) (neighbours_of g i) in (
        λ h j linked. all.0 h j ((near_linked g i j are).1 linked),
        λ each. all.1 (λ j at. each j ((near_linked g i j are).0 at)),
      )

  -- each node that is in holds its turns exactly where none is counted
  pub turns_held : (in_without_count g v ≡ 0) ↔ HoldsTurns g v
  turns_held =
      let none = none_counted (is_in_without g v) g.nodes in (
        λ nothing i j linked inside.
            (turns_tell i).0 (held (v i).inside (holds_all_turns g v i) inside (none.0 nothing i (are.ends i j linked))) j
            linked,
        λ inv. none.1 (λ i node. passes (v i).inside (holds_all_turns g v i)
            (λ inside. (turns_tell i).1 (λ j linked. inv i j linked inside))),
      )
    where
      held : (b c : Bool) → b ≡ true → (b && not c) ≡ false → c ≡ true
      held true true b e = refl
      held true false b e = absurd (true≢false e)
      held false c b e = absurd (true≢false (sym b))

      passes : (b c : Bool) → (b ≡ true → c ≡ true) → (b && not c) ≡ false
      passes true c h = ap not (h refl)
      passes false c h = refl

-- ---- no cases

pub nothing_wrong : (g : Graph) (v : ℕ → Unit {0}) → IsGraph g → (◌≡◌ {A = ℕ} 0 0 ↔ Unit {0})
nothing_wrong g v are = (λ e. tt, λ t. refl)
