use Rattle.snapshots.proofs.ItemWords.{no_dist}
use Rattle.snapshots.proofs.words.split_tree.Goals as goal

pub returns-in_err-dist-clause-only : goal.returns-in_err-dist-clause-only
returns-in_err-dist-clause-only c =
    rw c.from_residual-in_err-dist.ensures
    (no_dist c.args.text.now c.in_ok-rest.rest.now c.in_ok-root.rest.now c.in_ok-father.rest.now c.in_ok-root.root
    c.in_ok-father.father c.in_ok-rest.ensures.found c.in_ok-root.ensures.found c.in_ok-father.ensures.found
    c.in_err-dist.ensures.only)
