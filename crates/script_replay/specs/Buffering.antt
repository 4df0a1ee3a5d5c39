-- What a buffered output has taken.
use Rattle.std.specs.Prelude.{ℕ, List, Option, take, MatchOption}
use Rattle.std.specs.Io.KnownBytes.{append_known, Appends, Keeps}
use Rattle.std.specs.declared.io.traits.Write.{Ghosts}
use Rattle.script_replay.specs.declared.buffered_output.BufferedOutput.{BufferedOutput}

-- the bytes that it holds
abbrev pub held_bytes : {W : Type 0} {ghosts : Ghosts W} → BufferedOutput W ghosts → List ℕ
held_bytes buffered = take buffered.count buffered.held.items

-- the bytes that were flushed, and then those that it holds
abbrev pub buffered_contents : {W : Type 0} {ghosts : Ghosts W} → (W → Option (List ℕ)) → BufferedOutput W ghosts
    → Option (List ℕ)
buffered_contents contents buffered = append_known (contents buffered.out) (held_bytes buffered)

-- how many bytes of a text were taken, the first of it, or that none was
abbrev pub TakesFirst : Option (List ℕ) → Option (List ℕ) → Option ℕ → List ℕ → Type 0
TakesFirst old new result text = MatchOption result (Keeps old new) (λ count. Appends old new (take count text))
