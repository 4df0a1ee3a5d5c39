use Rattle.std.proofs.Common.{Contains, sym, subst, ◌∙◌}
use Rattle.node_threads.specs.Locked.{IsContinued}
use Rattle.node_threads.proofs.Entering.{booked_entered, if_err, if_err_on, if_ok, if_ok_on, on_ok}
use Rattle.node_threads.proofs.Refusing.{plan_full, plan_not_yours, plan_stale, plan_there}
use Rattle.node_threads.proofs.sharing.Shared.commit_back.Goals as goal

pub returns-clause-yours : goal.returns-clause-yours
returns-clause-yours g c = on_ok c.commit_in-done.result _ _ (λ is. is.0) c.commit_in-done.ensures.yours

pub returns-clause-told : goal.returns-clause-told
returns-clause-told g c =
    if_ok c.commit_in-done.result _ _ (λ done is. (
      (booked_entered g.P.Application.app _ c.args.plan.event _ done.0 is.0).event,
      is.1,
    )) c.commit_in-done.ensures.ok

pub returns-clause-seat : goal.returns-clause-seat
returns-clause-seat g c = if_ok c.commit_in-done.result _ _ (λ done is. is.2) c.commit_in-done.ensures.ok

pub returns-clause-kept : goal.returns-clause-kept
returns-clause-kept g c =
    if_err_on c.commit_in-done.result _ _ _ (λ e kept is. (kept.2, is.1)) c.commit_in-done.ensures.kept c.commit_in-done.ensures.err

pub returns-clause-ok : goal.returns-clause-ok
returns-clause-ok g c =
    let held =
    subst (λ d. IsContinued g.P.Application.app g.P.Application.from_text g.L.Sharing.book d.locked.book)
    (c.deref.ensures ∙ sym c.deref_mut.ensures.value) c.lemma_is_locked.ensures.continued in
    if_ok_on c.commit_in-done.result _ _ _ (λ done yours is. record {
      book = _;
      continued = held;
      such = (yours.1, record { after = c.commit_in-done.new.self.book; done = is.0 });
    }) c.commit_in-done.ensures.yours c.commit_in-done.ensures.ok

pub returns-clause-err : goal.returns-clause-err
returns-clause-err g c =
    let held =
    subst (λ d. IsContinued g.P.Application.app g.P.Application.from_text g.L.Sharing.book d.locked.book)
    (c.deref.ensures ∙ sym c.deref_mut.ensures.value) c.lemma_is_locked.ensures.continued in
    if_err c.commit_in-done.result _ _ (λ e is. record { book = _; continued = held; such = is.0 }) c.commit_in-done.ensures.err

pub returns-clause-not_yours : goal.returns-clause-not_yours
returns-clause-not_yours g c =
    if_err c.commit_in-done.result _ _ (λ e is. plan_not_yours g.P.Application.app g.P.Application.from_text c.deref_mut.result.now.locked.book _ c.args.plan e.0 is.0)
    c.commit_in-done.ensures.err

pub returns-clause-stale : goal.returns-clause-stale
returns-clause-stale g c =
    if_err c.commit_in-done.result _ _ (λ e is. plan_stale g.P.Application.app g.P.Application.from_text c.deref_mut.result.now.locked.book _ c.args.plan e.0 is.0)
    c.commit_in-done.ensures.err

pub returns-clause-there : goal.returns-clause-there
returns-clause-there g c =
    let node =
    subst (λ d. Contains d.locked.book.config.graph.nodes c.args.seat.now.node)
    (c.deref.ensures ∙ sym c.deref_mut.ensures.value)
    (subst (λ nodes. Contains nodes c.args.seat.now.node) (sym c.lemma_is_locked.ensures.nodes) c.lemma_is_node.ensures) in
    if_err c.commit_in-done.result _ _ (λ e is. plan_there g.P.Application.app g.P.Application.from_text
    c.deref_mut.result.now.locked.book _ c.args.plan node e.0 is.0) c.commit_in-done.ensures.err

pub returns-clause-full : goal.returns-clause-full
returns-clause-full g c =
    let held =
    subst (λ d. IsContinued g.P.Application.app g.P.Application.from_text g.L.Sharing.book d.locked.book)
    (c.deref.ensures ∙ sym c.deref_mut.ensures.value) c.lemma_is_locked.ensures.continued in
    if_err c.commit_in-done.result _ _ (λ e is full. record {
      book = _;
      continued = held;
      such = plan_full g.P.Application.app g.P.Application.from_text c.deref_mut.result.now.locked.book _ c.args.plan
          held.book e.0 is.0 full;
    }) c.commit_in-done.ensures.err
