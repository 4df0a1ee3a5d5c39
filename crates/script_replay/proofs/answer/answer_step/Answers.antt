use Rattle.std.proofs.Common.{◌≢◌, refl, rules}
use Rattle.reset_model.specs.declared.step.StepRefusal.TheVariants.{NoMemory}
use Rattle.script_replay.proofs.Written.{written_err, written_ok}
use Rattle.script_replay.proofs.answer.answer_step.Goals as goal

pub returns-in-Ok-clause-ok : goal.returns-in-Ok-clause-ok
returns-in-Ok-clause-ok g c =
    rw c.in-Ok.ensures.outcome
    (written_ok c.put_reply.result c.written.result c.written.ensures.ok c.written.ensures.err (λ text. (refl, text))
    c.put_reply.ensures.ok)

pub returns-in-Ok-clause-err : goal.returns-in-Ok-clause-err
returns-in-Ok-clause-err g c =
    rw c.in-Ok.ensures.outcome
    (written_err c.put_reply.result c.written.result c.written.ensures.ok c.written.ensures.err _
    c.put_reply.ensures.err)

pub returns-in-Ok-clause-fault : goal.returns-in-Ok-clause-fault
returns-in-Ok-clause-fault g c = rw c.in-Ok.ensures.outcome (λ failed. refl)

pub returns-in-Err-clause-ok : goal.returns-in-Err-clause-ok
returns-in-Err-clause-ok g c =
    let memory : c.in-Err.refusal ≢ NoMemory = search rules in
    rw (c.in-Err.ensures.outcome memory)
    (written_ok c.put_refusal.result c.written-in-Err.result c.written-in-Err.ensures.ok c.written-in-Err.ensures.err
    (λ text. (c.in-Err.ensures.kept, text)) c.put_refusal.ensures.ok)

pub returns-in-Err-clause-err : goal.returns-in-Err-clause-err
returns-in-Err-clause-err g c =
    let memory : c.in-Err.refusal ≢ NoMemory = search rules in
    rw (c.in-Err.ensures.outcome memory)
    (written_err c.put_refusal.result c.written-in-Err.result c.written-in-Err.ensures.ok c.written-in-Err.ensures.err _
    c.put_refusal.ensures.err)

pub returns-in-Err-clause-fault : goal.returns-in-Err-clause-fault
returns-in-Err-clause-fault g c =
    let memory : c.in-Err.refusal ≢ NoMemory = search rules in
    rw (c.in-Err.ensures.outcome memory) (λ failed. c.in-Err.ensures.kept)
