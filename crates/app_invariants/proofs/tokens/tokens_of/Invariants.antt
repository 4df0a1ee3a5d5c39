use Rattle.std.proofs.Common.{◌≡◌, ℕ, ◌≤◌, ◌*◌, get_or, map, take}
use Rattle.std.specs.List.{sum_by}
use Rattle.app_token.specs.declared.local.TokenLocal.{TokenLocal}
use Rattle.app_invariants.specs.States.{AreStates}
use Rattle.app_invariants.specs.Tokens.{tokens_at}
use Rattle.app_invariants.proofs.tokens.tokens_of.Given as goal

abbrev pub invariant-loop-index : goal.invariant-loop-index
invariant-loop-index l = record {
  so_far : (v : ℕ → TokenLocal) → AreStates l.topology v l.states
      → l.count ≡ sum_by (tokens_at l.topology v) (map (λ k. get_or l.topology.ids k 0) (take l.index-index l.members));
  small : l.count ≤ l.index-index * 1025;
}
