use Rattle.std.proofs.Common.{◌∙◌, arith, refl, subst, sym}
use Rattle.topology.specs.Graph.{IsGraph}
use Rattle.recovery.proofs.Finished.{all_finished, finished_on, tried_finish}
use Rattle.recovery.proofs.Counting.{tried_ends}
use Rattle.recovery.proofs.resetting.finish_all.Goals as goal

pub loop-at-preserved : goal.loop-at-preserved
loop-at-preserved g c =
    let app = g.P.Application.app in
    let now = c.loop-at.draft in
    let by = c.loop-at.invariant.1 in
    let graph = subst IsGraph (sym by.keeps.graph) (rw (← c.config.ensures) c.lemma_is_graph.ensures.graph) in
    let tried = c.in_ok-take_if_enabled.ensures.tried in
    let next = tried_finish app now.config graph c.args.order.now c.loop-at.at-index 0 c.loop-at-test.true
    c.loop-at.invariant.2 now c.take_if_enabled.new.self refl tried in (
      c.in_ok-take_if_enabled.ensures.opening ∙ c.loop-at.invariant.0,
      finished_on app c.args.draft.now.config now.config c.take_if_enabled.new.self.config by next.0,
      next.1,
      tried_ends app c.args.draft.now.config now c.take_if_enabled.new.self c.args.draft.now.events _ by.keeps
          c.loop-at.invariant.3 tried,
      omega (arith, c.in_ok-take_if_enabled.ensures.count, c.loop-at.invariant.4),
    )

pub returns-clause-none : goal.returns-clause-none
returns-clause-none g c =
    all_finished c.loop-at.draft.config c.args.order.now c.loop-at.at-index (omega (arith, c.loop-at-test.false))
    c.loop-at.invariant.2
