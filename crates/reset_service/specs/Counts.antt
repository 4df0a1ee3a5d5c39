-- Lines that count what a history has.
use Rattle.std.specs.Prelude.{ℕ, List, [], ◌∷◌, codes}
use Rattle.std.specs.Fmt.{decimal}
use Rattle.std.specs.List.{concat}
use Rattle.history.specs.HistoryText.{ended}

-- the line of the numbers of entries and of reports, behind these words
abbrev pub counts_line : List ℕ → ℕ → ℕ → List ℕ
counts_line words entries reports =
    concat (words ∷ decimal entries ∷ codes " entries " ∷ decimal reports ∷ ended (codes " reports") ∷ [])
