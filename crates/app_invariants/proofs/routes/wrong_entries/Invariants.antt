use Rattle.std.proofs.Common.{◌≡◌, ℕ, ◌*◌, ◌≤◌, List, get_or, map, take}
use Rattle.std.specs.List.{sum_by}
use Rattle.app_routes.specs.declared.entry.Entry.{Entry}
use Rattle.app_invariants.specs.States.{AreStates}
use Rattle.app_invariants.specs.WrongEntries.{wrong_at}
use Rattle.app_invariants.proofs.routes.wrong_entries.Given as goal

abbrev pub invariant-loop-index : goal.invariant-loop-index
invariant-loop-index l = record {
  so_far : (v : ℕ → List Entry) → AreStates l.topology v l.states
      → l.count ≡ sum_by (wrong_at l.topology v) (map (λ k. get_or l.topology.ids k 0) (take l.index-index l.members));
  small : l.count ≤ l.index-index * 65535;
}
