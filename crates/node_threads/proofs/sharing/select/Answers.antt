use Rattle.std.proofs.Common.{IfErr, IfOk, subst}
use Rattle.reset_model.specs.declared.event.Event.TheVariants.{Request}
use Rattle.node_threads.specs.Locked.{HasContinuation, IsBooked, IsUndone}
use Rattle.node_threads.proofs.sharing.select.Goals as goal

pub returns-clause-ok : goal.returns-clause-ok
returns-clause-ok g c =
    subst (λ at. IfOk c.step.result (λ receipt. HasContinuation g.P.Application.app g.P.Application.from_text
    g.L.Sharing.book (λ b. IsBooked g.P.Application.app b (Request at) receipt))) c.node-at.ensures c.step.ensures.ok

pub returns-clause-err : goal.returns-clause-err
returns-clause-err g c =
    subst (λ at. IfErr c.step.result (λ f. HasContinuation g.P.Application.app g.P.Application.from_text
    g.L.Sharing.book (λ b. IsUndone g.P.Application.app b c.args.seat.now.node (Request at) f))) c.node-at.ensures
    c.step.ensures.err
