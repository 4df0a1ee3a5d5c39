-- Where a node may enter.
use Rattle.std.proofs.Common.{◌≡◌, ◌↔◌, ℕ, Bool, true, false, not, ◌&&◌, cond, None, IsSome, Ok, Err, rules}
use Rattle.std.specs.Result.{result_ok}
use Rattle.app_interface.specs.Application.{seen}
use Rattle.app_interface.specs.declared.refusal.ClockRefusal.TheVariants.{NotEnabled}
use Rattle.topology.specs.Graph.{Graph, IsGraph, AreLinked, are_linked}
use Rattle.app_mutex.specs.Mutex.{holds_turns, mutex_next}
use Rattle.app_interface.specs.LawsOfSeen.{seen_pass}
use Rattle.app_mutex.specs.Turns.{holds_turn}
use Rattle.app_mutex.specs.declared.local.MutexLocal.{MutexLocal}

-- a row whose guard has two parts is enabled exactly where both hold
row_enabled : (inside held : Bool) (new : MutexLocal)
    → (IsSome (result_ok (cond (not inside && held) (Ok new) (Err NotEnabled))) ↔ (inside ≡ false) × (held ≡ true))
row_enabled inside held new = search rules

pub enter_enabled : (g : Graph) (v : ℕ → MutexLocal) (i : ℕ) → IsGraph g
    → (IsSome (mutex_next i 1 None (v i) (seen (are_linked g i) v g.ids))
    ↔ ((v i).inside ≡ false) × ((j : ℕ) → AreLinked g i j → holds_turn i (v i).bit j (v j).bit ≡ true))
enter_enabled g v i are =
    let row =
    row_enabled (v i).inside (holds_turns i (v i).bit (seen (are_linked g i) v g.ids))
    (record { inside = true; bit = (v i).bit }) in
    let all = seen_pass (λ near. holds_turn i (v i).bit near.0 near.1.bit) v g are i in
    (λ h. ((row.0 h).0, all.0 (row.0 h).1), λ both. row.1 (both.0, all.1 both.1))
