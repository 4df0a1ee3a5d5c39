use Rattle.snapshots.proofs.ItemWords.{no_local_word}
use Rattle.snapshots.proofs.words.split_state.Goals as goal

pub returns-in_err-local-clause-only : goal.returns-in_err-local-clause-only
returns-in_err-local-clause-only c =
    rw c.from_residual-in_err-local.ensures
    (no_local_word c.args.text.now c.in_ok-id.rest.now c.in_ok-tree.rest.now c.in_ok-wave.rest.now c.in_ok-id.id
    c.in_ok-tree.tree c.in_ok-wave.wave c.in_ok-id.ensures.found c.in_ok-tree.ensures.found c.in_ok-wave.ensures.found
    c.in_err-local.ensures.only)
