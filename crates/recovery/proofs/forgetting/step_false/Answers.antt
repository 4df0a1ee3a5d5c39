use Rattle.std.proofs.Common.{ap}
use Rattle.recovery.proofs.ForgetSteps.{claimed_on, followed_on, stuck}
use Rattle.recovery.proofs.forgetting.step_false.Goals as goal

pub returns-then-branch-clause-done : goal.returns-then-branch-clause-done
returns-then-branch-clause-done g c =
    let app = g.P.Application.app in
    let old = c.args.draft.now in
    let on = c.in_ok-attempt.ensures.done c.if-branch.true in
    claimed_on app old.config c.args.target.now c.attempt.new.self.config c.args.at old.events c.attempt.new.self.events
    (rw (← c.config.ensures) c.lemma_is_graph.ensures.graph) c.requires.target c.requires.lowest on.0 on.1

pub returns-then-branch-2-clause-done : goal.returns-then-branch-2-clause-done
returns-then-branch-2-clause-done g c =
    let app = g.P.Application.app in
    let old = c.args.draft.now in
    let no_claim = c.in_ok-attempt.ensures.refused c.if-branch.false in
    let on = c.in_ok-attempt-2.ensures.done c.if-branch-2.true in
    followed_on app old.config c.args.target.now c.attempt-2.new.self.config c.args.at old.events
    c.attempt-2.new.self.events (rw (← c.config.ensures) c.lemma_is_graph.ensures.graph) c.requires.target
    c.requires.lowest c.attempt.new.self.config c.attempt.new.self.events (ap (λ d. d.config) no_claim.0)
    (ap (λ d. d.events) no_claim.0) on.0 on.1

pub unreachable-requires : goal.unreachable-requires
unreachable-requires g c =
    let app = g.P.Application.app in
    let old = c.args.draft.now in
    let no_claim = c.in_ok-attempt.ensures.refused c.if-branch.false in
    let no_follow = c.in_ok-attempt-2.ensures.refused c.if-branch-2.false in
    stuck app old.config c.args.target.now old.config c.args.at (rw (← c.config.ensures) c.lemma_is_graph.ensures.graph)
    c.requires.target c.requires.lowest no_claim.1.0 no_follow.1.0 no_claim.1.1 c.attempt.new.self.config
    (ap (λ d. d.config) no_claim.0) no_follow.1.1
