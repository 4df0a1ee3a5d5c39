use Rattle.std.proofs.Common.{◌≡◌, ℕ, ◌≤◌, get_or, map, take}
use Rattle.std.specs.List.{count_by}
use Rattle.app_token.specs.TokenLinks.{is_in_flight}
use Rattle.app_token.specs.declared.local.TokenLocal.{TokenLocal}
use Rattle.app_invariants.specs.States.{AreStates}
use Rattle.app_invariants.proofs.tokens.flights_to.Given as goal

abbrev pub invariant-loop-near : goal.invariant-loop-near
invariant-loop-near l = record {
  so_far : (v : ℕ → TokenLocal) → AreStates l.topology v l.states
      → l.count ≡ count_by (λ a. is_in_flight a (get_or l.topology.ids l.index 0) (v a) (v (get_or l.topology.ids l.index 0)))
      (map (λ k. get_or l.topology.ids k 0) (take l.near-index l.near-items));
  few : l.count ≤ l.near-index;
}
