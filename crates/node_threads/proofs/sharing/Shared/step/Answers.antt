use Rattle.std.proofs.Common.{sym, subst, ◌∙◌}
use Rattle.node_threads.specs.Locked.{IsContinued}
use Rattle.node_threads.proofs.Entering.{booked_entered, if_err, if_ok, on_err}
use Rattle.node_threads.proofs.Refusing.{event_not_yours}
use Rattle.node_threads.proofs.sharing.Shared.step.Goals as goal

pub returns-clause-told : goal.returns-clause-told
returns-clause-told g c =
    if_ok c.step_in-done.result _ _ (λ receipt done. (booked_entered g.P.Application.app _ c.args.event _ receipt
    done.0).event) c.step_in-done.ensures.ok

pub returns-clause-seat : goal.returns-clause-seat
returns-clause-seat g c = if_ok c.step_in-done.result _ _ (λ receipt is. is.1) c.step_in-done.ensures.ok

pub returns-clause-kept : goal.returns-clause-kept
returns-clause-kept g c = on_err c.step_in-done.result _ _ (λ is. is.2) c.step_in-done.ensures.kept

pub returns-clause-ok : goal.returns-clause-ok
returns-clause-ok g c =
    let held =
    subst (λ d. IsContinued g.P.Application.app g.P.Application.from_text g.L.Sharing.book d.locked.book)
    (c.deref.ensures ∙ sym c.deref_mut.ensures.value) c.lemma_is_locked.ensures.continued in
    if_ok c.step_in-done.result _ _ (λ receipt is. record {
      book = _;
      continued = held;
      such = record { after = c.step_in-done.new.self.book; done = is.0 };
    })
    c.step_in-done.ensures.ok

pub returns-clause-err : goal.returns-clause-err
returns-clause-err g c =
    let held =
    subst (λ d. IsContinued g.P.Application.app g.P.Application.from_text g.L.Sharing.book d.locked.book)
    (c.deref.ensures ∙ sym c.deref_mut.ensures.value) c.lemma_is_locked.ensures.continued in
    if_err c.step_in-done.result _ _ (λ f is. record { book = _; continued = held; such = is }) c.step_in-done.ensures.err

pub returns-clause-yours : goal.returns-clause-yours
returns-clause-yours g c = c.step_in-done.ensures.yours

pub returns-clause-not_yours : goal.returns-clause-not_yours
returns-clause-not_yours g c =
    event_not_yours g.P.Application.app _ _ c.args.event c.step_in-done.result c.step_in-done.ensures.yours c.step_in-done.ensures.err
