-- What proofs use of the session that follows another.
use Rattle.std.proofs.Common.{◌≢◌, ℕ, zero, suc, ◌≤◌, ◌+◌, ◌*◌, ◌/◌, ◌∙◌, ap, sym, arith}
use Rattle.std.proofs.lemmas.Nat.{div-add-mod'}
use Rattle.wave_layer.specs.Sessions.{next_session}

-- a number isn't the remainder of the one after it
remainder_differs : (q m s : ℕ) → 2 ≤ m → q * m + s ≢ s + 1
remainder_differs zero m s two e = omega arith
remainder_differs (suc q) m s two e = omega arith

-- the next session is another one
pub next_differs : (m s : ℕ) → 2 ≤ m → next_session m s ≢ s
unfolding next_session
next_differs m s two e =
    let q = (s + 1) / m in
    remainder_differs q m s two (ap (λ r. q * m + r) (sym e) ∙ div-add-mod' (s + 1) m)
