-- The order of the sessions, which are counted modulo a number.
use Rattle.std.specs.Prelude.{ℕ, ◌+◌, ◌%◌}

-- the session after s, modulo m. Crates above use of it only what the lemmas of NextSession say
unfoldable pub next_session : ℕ → ℕ → ℕ
next_session m s = (s + 1) % m
