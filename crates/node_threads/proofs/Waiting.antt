-- How many nodes wait, where the standing of one changes.
use Rattle.std.proofs.Common.{◌≡◌, ◌≤◌, ◌<◌, ◌+◌, ◌-◌, ◌^◌, ℕ, List, [], ◌∷◌, length, arith, Fits, w64}
use Rattle.std.proofs.lemmas.List.Sums.{sum_by-cons}
use Rattle.node_threads.specs.declared.attendance.Standing.{Standing}
use Rattle.node_threads.specs.declared.attendance.Standing.TheVariants.{Current, Stale, Waiting}
use Rattle.node_threads.specs.Waiting.{count_waiting, one_if_waiting}

pub one_at_most : (x : Standing) → one_if_waiting x ≤ 1
one_at_most Current = omega arith
one_at_most Stale = omega arith
one_at_most Waiting = omega arith

pub at_most : (xs : List Standing) → count_waiting xs ≤ length xs
at_most [] = omega arith
at_most (x ∷ xs) = omega (arith, sum_by-cons one_if_waiting x xs, one_at_most x, at_most xs)

-- one more, who may wait
pub fits_more : (xs : List Standing) (waiting old new : ℕ) (x : Standing) → waiting ≡ count_waiting xs
    → new ≡ one_if_waiting x → length xs < 2 ^ 63
    → Fits w64 (waiting - old + new)
fits_more xs waiting old new x counted is small = omega (arith, counted, is, small, at_most xs, one_at_most x)
