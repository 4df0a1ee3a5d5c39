use Rattle.std.proofs.Common.{ap}
use Rattle.recovery.proofs.MendingOut.{did_mend, needs_none}
use Rattle.recovery.proofs.mending.mend_one.Goals as goal

pub returns-then-branch-clause-mended : goal.returns-then-branch-clause-mended
returns-then-branch-clause-mended g c =
    did_mend g.P.Application.app c.args.draft.now.config c.args.at
    (rw (← c.config.ensures) c.lemma_is_graph.ensures.graph) c.attempt.new.self.config
    (c.in_ok-attempt.ensures.done c.if-branch.true).0

pub returns-clause-mended : goal.returns-clause-mended
returns-clause-mended g c =
    let none = c.in_ok-attempt.ensures.refused c.if-branch.false in
    needs_none g.P.Application.app c.args.draft.now.config c.args.at
    (rw (← c.config.ensures) c.lemma_is_graph.ensures.graph) none.1.0 c.requires none.1.1 c.attempt.new.self.config
    (ap (λ d. d.config) none.0)
