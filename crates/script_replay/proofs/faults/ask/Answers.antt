use Rattle.std.proofs.Common.{◌≢◌, Some, refl, rules}
use Rattle.std.proofs.KnownBytes.{Appends-trans}
use Rattle.action_tables.proofs.Prefixes.{AppendsPrefix-first, OnErr-always, OnErr-then}
use Rattle.reset_model.specs.declared.step.StepRefusal.TheVariants.{NoMemory}
use Rattle.script_replay.specs.Output.{alarm_text}
use Rattle.script_replay.proofs.Written.{written_err, written_ok}
use Rattle.script_replay.proofs.faults.ask.Goals as goal

pub returns-in_err-put_alarm-in-Ok-clause-err : goal.returns-in_err-put_alarm-in-Ok-clause-err
returns-in_err-put_alarm-in-Ok-clause-err g c =
    OnErr-always _ _ (AppendsPrefix-first _ _ (alarm_text (Some c.args.fault)) _ c.in_err-put_alarm-in-Ok.ensures.err)

pub returns-in_ok-put_alarm-in-Ok-clause-err : goal.returns-in_ok-put_alarm-in-Ok-clause-err
returns-in_ok-put_alarm-in-Ok-clause-err g c =
    rw c.in-Ok.ensures.outcome
    (OnErr-then _ _ _ _ (alarm_text (Some c.args.fault)) _ _ refl c.in_ok-put_alarm-in-Ok.ensures.ok
    (written_err c.put_reply.result c.written.result c.written.ensures.ok c.written.ensures.err _
    c.put_reply.ensures.err))

pub returns-in_err-put_alarm-in-Err-clause-err : goal.returns-in_err-put_alarm-in-Err-clause-err
returns-in_err-put_alarm-in-Err-clause-err g c =
    OnErr-always _ _ (AppendsPrefix-first _ _ (alarm_text (Some c.args.fault)) _ c.in_err-put_alarm-in-Err.ensures.err)

pub returns-in_err-put_alarm-in-Err-clause-fault : goal.returns-in_err-put_alarm-in-Err-clause-fault
returns-in_err-put_alarm-in-Err-clause-fault g c =
    let memory : c.in-Err.refusal ≢ NoMemory = search rules in
    rw (c.in-Err.ensures.outcome memory) (λ failed. c.in-Err.ensures.kept)

pub returns-in_ok-put_alarm-in-Err-clause-ok : goal.returns-in_ok-put_alarm-in-Err-clause-ok
returns-in_ok-put_alarm-in-Err-clause-ok g c =
    let memory : c.in-Err.refusal ≢ NoMemory = search rules in
    rw (c.in-Err.ensures.outcome memory)
    (written_ok c.put_refusal.result c.written-in-Err.result
    c.written-in-Err.ensures.ok c.written-in-Err.ensures.err
    (λ text. (
      c.in-Err.ensures.kept,
      Appends-trans _ _ _ (alarm_text (Some c.args.fault)) _ c.in_ok-put_alarm-in-Err.ensures.ok text,
    ))
    c.put_refusal.ensures.ok)

pub returns-in_ok-put_alarm-in-Err-clause-err : goal.returns-in_ok-put_alarm-in-Err-clause-err
returns-in_ok-put_alarm-in-Err-clause-err g c =
    let memory : c.in-Err.refusal ≢ NoMemory = search rules in
    rw (c.in-Err.ensures.outcome memory)
    (OnErr-then _ _ _ _ (alarm_text (Some c.args.fault)) _ _ refl c.in_ok-put_alarm-in-Err.ensures.ok
    (written_err c.put_refusal.result c.written-in-Err.result
    c.written-in-Err.ensures.ok c.written-in-Err.ensures.err _
    c.put_refusal.ensures.err))

pub returns-in_ok-put_alarm-in-Err-clause-fault : goal.returns-in_ok-put_alarm-in-Err-clause-fault
returns-in_ok-put_alarm-in-Err-clause-fault g c =
    let memory : c.in-Err.refusal ≢ NoMemory = search rules in
    rw (c.in-Err.ensures.outcome memory) (λ failed. c.in-Err.ensures.kept)
