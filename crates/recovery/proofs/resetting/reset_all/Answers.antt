use Rattle.std.proofs.Common.{sym, subst}
use Rattle.topology.specs.Graph.{IsGraph}
use Rattle.recovery.proofs.MendingOut.{kept_on}
use Rattle.recovery.proofs.Renewed.{anew_joined, on_ok_all, renewed}
use Rattle.recovery.proofs.WaveMoves.{inward_on, outward_on}
use Rattle.recovery.proofs.resetting.reset_all.Goals as goal

pub finish_all-requires-clause-order : goal.finish_all-requires-clause-order
finish_all-requires-clause-order g c κs within =
    inward_on c.args.draft.now.config c.join_all.new.draft.config c.in_ok-join_all.ensures.keeps c.args.inward.now
    c.requires.inward

pub restart_all-requires-clause-order : goal.restart_all-requires-clause-order
restart_all-requires-clause-order g c κs within =
    let old = c.args.draft.now.config in
    let keeps = kept_on old c.join_all.new.draft.config c.finish_all.new.draft.config c.in_ok-join_all.ensures.keeps
    c.in_ok-finish_all.ensures.finished.keeps in
    outward_on old c.finish_all.new.draft.config keeps c.args.outward.now c.requires.outward

pub finish_all-requires-2-clause-joined : goal.finish_all-requires-2-clause-joined
finish_all-requires-2-clause-joined g c κs within =
    let keeps = kept_on c.args.draft.now.config c.join_all.new.draft.config c.finish_all.new.draft.config
    c.in_ok-join_all.ensures.keeps c.in_ok-finish_all.ensures.finished.keeps in
    anew_joined g.P.Application.app c.finish_all.new.draft.config c.restart_all.new.draft.config
    c.restart_all.new.draft.events
    (subst IsGraph (sym keeps.graph) (rw (← c.config.ensures) c.lemma_is_graph.ensures.graph))
    c.in_ok-restart_all.ensures.keeps c.in_ok-finish_all.ensures.joined c.in_ok-restart_all.ensures.anew

pub finish_all-requires-2-clause-order : goal.finish_all-requires-2-clause-order
finish_all-requires-2-clause-order g c κs within =
    let old = c.args.draft.now.config in
    let last = c.restart_all.new.draft.config in
    let keeps = kept_on old c.join_all.new.draft.config c.finish_all.new.draft.config c.in_ok-join_all.ensures.keeps
    c.in_ok-finish_all.ensures.finished.keeps in
    inward_on old last (kept_on old c.finish_all.new.draft.config last keeps c.in_ok-restart_all.ensures.keeps)
    c.args.inward.now c.requires.inward

pub returns-clause-renewed : goal.returns-clause-renewed
returns-clause-renewed g c =
    let keeps = kept_on c.args.draft.now.config c.join_all.new.draft.config c.finish_all.new.draft.config
    c.in_ok-join_all.ensures.keeps c.in_ok-finish_all.ensures.finished.keeps in
    on_ok_all c.finish_all-2.result _ _ _ _ _
    (λ finished joined none ended.
    renewed g.P.Application.app c.finish_all.new.draft.config c.restart_all.new.draft.config
    c.finish_all-2.new.draft.config c.restart_all.new.draft.events c.finish_all-2.new.draft.events
    (subst IsGraph (sym keeps.graph) (rw (← c.config.ensures) c.lemma_is_graph.ensures.graph))
    c.in_ok-finish_all.ensures.sound c.in_ok-restart_all.ensures.keeps c.in_ok-restart_all.ensures.anew finished joined
    none ended)
    c.finish_all-2.ensures.finished c.finish_all-2.ensures.joined c.finish_all-2.ensures.none
    c.finish_all-2.ensures.ended
