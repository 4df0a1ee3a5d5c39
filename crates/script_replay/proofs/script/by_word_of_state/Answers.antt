use Rattle.std.specs.Prelude.{codes}
use Rattle.std.proofs.Common.{[], ◌∷◌, ap, arith}
use Rattle.std.proofs.lemmas.Slice.Eq.{text_from_reads}
use Rattle.script_replay.proofs.script.by_word_of_state.Goals as goal

pub returns-in-show-clause-found : goal.returns-in-show-clause-found
returns-in-show-clause-found c =
    ap (λ w. w ∷ [])
    (text_from_reads c.args.word.now (codes "show") (omega arith)
    (omega arith, (omega arith, (omega arith, (omega arith, tt)))))

pub returns-in-newest-clause-found : goal.returns-in-newest-clause-found
returns-in-newest-clause-found c =
    ap (λ w. w ∷ [])
    (text_from_reads c.args.word.now (codes "newest") (omega arith)
    (omega arith, (omega arith, (omega arith, (omega arith, (omega arith, (omega arith, tt)))))))

pub returns-in-snapshot-clause-found : goal.returns-in-snapshot-clause-found
returns-in-snapshot-clause-found c =
    ap (λ w. w ∷ [])
    (text_from_reads c.args.word.now (codes "snapshot") (omega arith) (
      omega arith,
      (omega arith, (omega arith, (omega arith, (omega arith, (omega arith, (omega arith, (omega arith, tt))))))),
    ))
