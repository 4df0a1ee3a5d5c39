use Rattle.std.proofs.Common.{sym, subst, ◌∙◌}
use Rattle.node_threads.specs.Locked.{IsContinued}
use Rattle.node_threads.proofs.Entering.{if_ok}
use Rattle.node_threads.proofs.sharing.Shared.look_again.Goals as goal

pub returns-clause-ok : goal.returns-clause-ok
returns-clause-ok g c =
    let held =
    subst (λ d. IsContinued g.P.Application.app g.P.Application.from_text g.L.Sharing.book d.locked.book)
    (c.deref.ensures ∙ sym c.deref-2.ensures) c.lemma_is_locked.ensures.continued in
    if_ok c.look_in-seen.result _ _ (λ view is. record { book = _; continued = held; such = is })
    c.look_in-seen.ensures.ok

pub returns-clause-err : goal.returns-clause-err
returns-clause-err g c = c.look_in-seen.ensures.err
