use Rattle.std.proofs.Common.{◌≡◌, ℕ, ◌≤◌, get_or, map, take}
use Rattle.std.specs.List.{count_by}
use Rattle.app_mutex.specs.declared.local.MutexLocal.{MutexLocal}
use Rattle.app_invariants.specs.LackedTurns.{is_in_without}
use Rattle.app_invariants.specs.States.{AreStates}
use Rattle.app_invariants.proofs.turns.in_without.Given as goal

abbrev pub invariant-loop-index : goal.invariant-loop-index
invariant-loop-index l = record {
  so_far : (v : ℕ → MutexLocal) → AreStates l.topology v l.states
      → l.count ≡ count_by (is_in_without l.topology v) (map (λ k. get_or l.topology.ids k 0) (take l.index-index l.members));
  few : l.count ≤ l.index-index;
}
