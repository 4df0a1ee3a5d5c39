-- What is told of an application's invariant in a component.
use Rattle.std.specs.Prelude.{ℕ, List, [], ◌∷◌, codes, Option, Some, None}
use Rattle.std.specs.Fmt.{decimal}
use Rattle.std.specs.List.{concat}
use Rattle.history.specs.HistoryText.{ended}

-- a component by its leader, and what is wrong there
abbrev pub Judged : Type 0
Judged = ℕ × Option (List ℕ × ℕ)

-- that the invariant holds in the component of a leader, or what is wrong there
abbrev pub judgement : ℕ → Option (List ℕ × ℕ) → List ℕ
judgement leader None = concat (codes "invariant " ∷ decimal leader ∷ ended (codes " holds") ∷ [])
judgement leader (Some wrong) =
    concat (codes "invariant " ∷ decimal leader ∷ codes " fails " ∷ wrong.0 ∷ codes " " ∷ decimal wrong.1 ∷ ended [] ∷ [])

abbrev pub verdict_line : Judged → List ℕ
verdict_line v = judgement v.0 v.1
