use Rattle.link_predicates.proofs.QuietRows.{no_tree_row, no_wave_row}
use Rattle.link_predicates.proofs.quiet.rests.Goals as goal

pub returns-then-own-other-clause-tree : goal.returns-then-own-other-clause-tree
returns-then-own-other-clause-tree g c = λ _.
    no_tree_row _ _ _ _ c.own.view_is c.other.view_is c.args.limits.now.k (c.stays.ensures c.if-stays.true)
    (λ named. absurd (c.if-own-other.true named))

pub returns-then-follows-clause-tree : goal.returns-then-follows-clause-tree
returns-then-follows-clause-tree g c = λ _.
    no_tree_row _ _ _ _ c.own.view_is c.other.view_is c.args.limits.now.k (c.stays.ensures c.if-stays.true)
    (λ _. c.follows.ensures c.if-follows.true)

pub returns-then-follows-clause-wave : goal.returns-then-follows-clause-wave
returns-then-follows-clause-wave g c =
    λ fits. no_wave_row _ _ _ _ c.own.view_is c.other.view_is c.args.limits.now.modulus (λ _. c.fits.ensures fits)
