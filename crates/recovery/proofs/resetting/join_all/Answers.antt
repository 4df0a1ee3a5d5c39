use Rattle.std.proofs.Common.{◌∙◌, arith, refl, subst, sym}
use Rattle.topology.specs.Graph.{IsGraph}
use Rattle.recovery.proofs.Joined.{all_joined, tried_join}
use Rattle.recovery.proofs.MendingOut.{kept_on}
use Rattle.recovery.proofs.resetting.join_all.Goals as goal

pub loop-at-preserved : goal.loop-at-preserved
loop-at-preserved g c =
    let now = c.loop-at.draft in
    let keeps = c.loop-at.invariant.1 in
    let graph = subst IsGraph (sym keeps.graph) (rw (← c.config.ensures) c.lemma_is_graph.ensures.graph) in
    let next = tried_join g.P.Application.app now.config graph c.args.order.now c.loop-at.at-index 0 c.loop-at-test.true
    c.loop-at.invariant.2 now c.take_if_enabled.new.self refl c.in_ok-take_if_enabled.ensures.tried in (
      c.in_ok-take_if_enabled.ensures.opening ∙ c.loop-at.invariant.0,
      kept_on c.args.draft.now.config now.config c.take_if_enabled.new.self.config keeps next.0,
      next.1,
      omega (arith, c.in_ok-take_if_enabled.ensures.count, c.loop-at.invariant.3),
    )

pub returns-clause-joined : goal.returns-clause-joined
returns-clause-joined g c =
    all_joined c.loop-at.draft.config c.args.order.now c.loop-at.at-index (omega (arith, c.loop-at-test.false))
    c.loop-at.invariant.2
