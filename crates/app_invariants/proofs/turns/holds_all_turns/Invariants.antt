use Rattle.std.proofs.Common.{◌≡◌, ℕ, true, get_or, map, take}
use Rattle.std.specs.List.{list_all}
use Rattle.app_mutex.specs.Turns.{holds_turn}
use Rattle.app_mutex.specs.declared.local.MutexLocal.{MutexLocal}
use Rattle.app_invariants.specs.States.{AreStates}
use Rattle.app_invariants.proofs.turns.holds_all_turns.Given as goal

-- the turns of the links so far are held
abbrev pub invariant-loop-near : goal.invariant-loop-near
invariant-loop-near l =
    (v : ℕ → MutexLocal) → AreStates l.topology v l.states → let i = get_or l.topology.ids l.index 0 in
    list_all (λ j. holds_turn i (v i).bit j (v j).bit)
    (map (λ k. get_or l.topology.ids k 0) (take l.near-index l.near-items)) ≡ true
