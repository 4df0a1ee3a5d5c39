use Rattle.std.specs.Prelude.{codes}
use Rattle.std.proofs.Common.{[], ◌∷◌, ap, arith}
use Rattle.std.proofs.lemmas.Slice.Eq.{text_from_reads}
use Rattle.script_replay.proofs.script.by_word_of_rules.Goals as goal

pub returns-in-ready-clause-found : goal.returns-in-ready-clause-found
returns-in-ready-clause-found c =
    ap (λ w. w ∷ [])
    (text_from_reads c.args.word.now (codes "ready") (omega arith)
    (omega arith, (omega arith, (omega arith, (omega arith, (omega arith, tt))))))

pub returns-in-check-clause-found : goal.returns-in-check-clause-found
returns-in-check-clause-found c =
    ap (λ w. w ∷ [])
    (text_from_reads c.args.word.now (codes "check") (omega arith)
    (omega arith, (omega arith, (omega arith, (omega arith, (omega arith, tt))))))

pub returns-in-moves-clause-found : goal.returns-in-moves-clause-found
returns-in-moves-clause-found c =
    ap (λ w. w ∷ [])
    (text_from_reads c.args.word.now (codes "moves") (omega arith)
    (omega arith, (omega arith, (omega arith, (omega arith, (omega arith, tt))))))

pub returns-in-invariant-clause-found : goal.returns-in-invariant-clause-found
returns-in-invariant-clause-found c =
    ap (λ w. w ∷ [])
    (text_from_reads c.args.word.now (codes "invariant") (omega arith) (
      omega arith,
      (
        omega arith,
        (omega arith, (omega arith, (omega arith, (omega arith, (omega arith, (omega arith, (omega arith, tt))))))),
      ),
    ))
