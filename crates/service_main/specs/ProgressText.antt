-- What a line says of a run: for how long it has been working, and how far it has come.
use Rattle.std.specs.Prelude.{ℕ, ◌*◌, ◌/◌, ◌-◌, List, ◌∷◌, [], codes}
use Rattle.std.specs.Fmt.{decimal}
use Rattle.std.specs.List.{concat}

-- for how many seconds
abbrev pub seconds_text : ℕ → List ℕ
seconds_text seconds = concat (decimal seconds ∷ codes " s" ∷ [])

-- the part that is done, in percent, and the seconds that the rest takes at that pace
abbrev pub share_text : ℕ → ℕ → ℕ → List ℕ
share_text seconds done all =
    concat (decimal (done * 100 / all) ∷ codes " %, " ∷ decimal (seconds * (all - done) / done) ∷ codes " s left" ∷ [])

-- how many configurations are found, and how many of them are still to be followed
abbrev pub found_text : ℕ → ℕ → List ℕ
found_text found rest =
    concat (decimal found ∷ codes " configurations, " ∷ decimal rest ∷ codes " to follow, " ∷ [])

-- how many were found a second, and the seconds
abbrev pub pace_text : ℕ → ℕ → List ℕ
pace_text seconds found =
    concat (decimal (found / seconds) ∷ codes " a second, " ∷ decimal seconds ∷ codes " s" ∷ [])
