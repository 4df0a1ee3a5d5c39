use Rattle.std.proofs.Common.{◌≡◌, ℕ, ◌≤◌, not, List, get_or, take}
use Rattle.std.specs.List.{count_by}
use Rattle.app_routes.specs.declared.entry.Entry.{Entry}
use Rattle.app_invariants.specs.States.{AreStates}
use Rattle.app_invariants.specs.WrongEntries.{is_route}
use Rattle.app_invariants.proofs.routes.wrong_at.Given as goal

abbrev pub invariant-loop-entry : goal.invariant-loop-entry
invariant-loop-entry l = record {
  so_far : (v : ℕ → List Entry) → AreStates l.topology v l.states
      → l.count ≡ count_by (λ e. not (is_route l.topology v (get_or l.topology.ids l.index 0) e))
      (take l.entry-index l.entry-items);
  small : l.count ≤ l.entry-index;
}
