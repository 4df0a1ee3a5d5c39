use Rattle.std.proofs.Common.{ap}
use Rattle.recovery.proofs.PlaceSteps.{leader_claims, leader_rests}
use Rattle.recovery.proofs.placing.place_leader.Goals as goal

pub returns-then-branch-clause-places : goal.returns-then-branch-clause-places
returns-then-branch-clause-places g c =
    leader_claims g.P.Application.app c.args.draft.now.config c.args.target.now c.args.at
    (rw (← c.config.ensures) c.lemma_is_graph.ensures.graph) c.requires.target c.requires.next
    c.attempt.new.self.config c.requires.leads (c.in_ok-attempt.ensures.done c.if-branch.true).0

pub returns-clause-places : goal.returns-clause-places
returns-clause-places g c =
    let no_claim = c.in_ok-attempt.ensures.refused c.if-branch.false in
    leader_rests g.P.Application.app c.args.draft.now.config c.args.target.now c.args.at
    (rw (← c.config.ensures) c.lemma_is_graph.ensures.graph) c.requires.target c.requires.next
    c.attempt.new.self.config no_claim.1.0 c.requires.leads (ap (λ d. d.config) no_claim.0) no_claim.1.1
