use Rattle.std.proofs.Common.{◌≡◌, drop, map}
use Rattle.explanations.specs.Explained.{text_in}
use Rattle.explanations.proofs.explained.text_of.Given as goal

-- the first that is left is the first of all
abbrev pub invariant-loop-explanation : goal.invariant-loop-explanation
invariant-loop-explanation l =
    text_in (map (λ e. (e.0.now, e.1.now)) (drop l.explanation-index l.table)) l.word
    ≡ text_in (map (λ e. (e.0.now, e.1.now)) l.table) l.word
