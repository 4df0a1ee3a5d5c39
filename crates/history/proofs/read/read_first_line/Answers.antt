use Rattle.std.proofs.Common.{◌≡◌, ◌++◌, ◌∷◌, List, ℕ, Bool, true, false, IfErr, not, refl, true≢false, subst, sym, ap, ◌∙◌}
use Rattle.std.specs.Prelude.{codes}
use Rattle.std.proofs.lemmas.Slice.Eq.{bytes_eq-Decides}
use Rattle.history.specs.Reading.{IsBadVersion}
use Rattle.history.proofs.FirstLines.{no_word, other_word}
use Rattle.history.proofs.read.read_first_line.Goals as goal

-- what isn't told apart is the same
not_false : (b : Bool) → false ≡ not b → b ≡ true
not_false true e = refl
not_false false e = absurd (true≢false (sym e))

-- a line that begins with the word goes on after a space
begins : (line word rest : List ℕ) → line ≡ word ++ 32 ∷ rest → word ≡ codes "reset-history"
    → line ≡ codes "reset-history " ++ rest
begins line word rest found is = found ∙ ap (λ w. w ++ 32 ∷ rest) is

pub returns-then-ne-clause-err : goal.returns-then-ne-clause-err
returns-then-ne-clause-err c =
    no_word c.args.line.now
    (λ has. true≢false
    ((rw c.as_slice.ensures at c.if-ne.ensures)
    ∙ ap not ((bytes_eq-Decides c.in-Some.word.now (codes "reset-history")).1
    (other_word c.args.line.now c.in-Some.word.now c.in-Some.rest.now c.in-Some.ensures.first c.in-Some.ensures.found has))))

pub returns-in-Some-cut-clause-err : goal.returns-in-Some-cut-clause-err
returns-in-Some-cut-clause-err c =
    let word =
    (bytes_eq-Decides c.in-Some.word.now (codes "reset-history")).0
    (not_false _ (rw c.as_slice.ensures at c.if-ne.ensures)) in
    let line =
    begins c.args.line.now c.in-Some.word.now c.in-Some.rest.now c.in-Some.ensures.found word
    ∙ ap (λ l. codes "reset-history " ++ l) c.in-Some-cut.ensures.found in
    subst (λ l. IfErr c.with_modulus.result (IsBadVersion l)) (sym line) c.with_modulus.ensures.err

pub returns-in-None-clause-err : goal.returns-in-None-clause-err
returns-in-None-clause-err c =
    let word =
    (bytes_eq-Decides c.in-Some.word.now (codes "reset-history")).0
    (not_false _ (rw c.as_slice.ensures at c.if-ne.ensures)) in
    let line = begins c.args.line.now c.in-Some.word.now c.in-Some.rest.now c.in-Some.ensures.found word in
    subst (λ l. IfErr c.version_alone.result (IsBadVersion l)) (sym line) c.version_alone.ensures.err
