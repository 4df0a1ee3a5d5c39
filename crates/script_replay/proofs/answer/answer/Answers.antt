use Rattle.std.proofs.Common.{refl}
use Rattle.script_replay.proofs.Written.{written_err, written_ok}
use Rattle.script_replay.proofs.answer.answer.Goals as goal

pub returns-in-Step-clause-ok : goal.returns-in-Step-clause-ok
returns-in-Step-clause-ok g c = rw c.in-Step.is c.answer_step.ensures.ok

pub returns-in-Step-clause-err : goal.returns-in-Step-clause-err
returns-in-Step-clause-err g c = rw c.in-Step.is c.answer_step.ensures.err

pub returns-in-Inject-clause-ok : goal.returns-in-Inject-clause-ok
returns-in-Inject-clause-ok g c = rw c.in-Inject.is c.answer_fault.ensures.ok

pub returns-in-Inject-clause-err : goal.returns-in-Inject-clause-err
returns-in-Inject-clause-err g c = rw c.in-Inject.is c.answer_fault.ensures.err

pub returns-in-Draw-clause-ok : goal.returns-in-Draw-clause-ok
returns-in-Draw-clause-ok g c = rw c.in-Draw.is c.answer_draw.ensures.ok

pub returns-in-Draw-clause-err : goal.returns-in-Draw-clause-err
returns-in-Draw-clause-err g c = rw c.in-Draw.is c.answer_draw.ensures.err

pub returns-in-Watch-clause-ok : goal.returns-in-Watch-clause-ok
returns-in-Watch-clause-ok g c = rw c.in-Watch.is c.answer_watch.ensures.ok

pub returns-in-Watch-clause-err : goal.returns-in-Watch-clause-err
returns-in-Watch-clause-err g c = rw c.in-Watch.is c.answer_watch.ensures.err

pub returns-in-Show-clause-ok : goal.returns-in-Show-clause-ok
returns-in-Show-clause-ok g c =
    rw c.in-Show.is
    (written_ok c.show_all.result c.written.result c.written.ensures.ok
    c.written.ensures.err (λ text. (refl, text)) c.show_all.ensures.ok)

pub returns-in-Show-clause-err : goal.returns-in-Show-clause-err
returns-in-Show-clause-err g c =
    rw c.in-Show.is
    (written_err c.show_all.result c.written.result c.written.ensures.ok
    c.written.ensures.err _ c.show_all.ensures.err)

pub returns-in-ShowNode-clause-ok : goal.returns-in-ShowNode-clause-ok
returns-in-ShowNode-clause-ok g c =
    rw c.in-ShowNode.is
    (written_ok c.show_node.result c.written-in-ShowNode.result c.written-in-ShowNode.ensures.ok
    c.written-in-ShowNode.ensures.err (λ text. (refl, text)) c.show_node.ensures.ok)

pub returns-in-ShowNode-clause-err : goal.returns-in-ShowNode-clause-err
returns-in-ShowNode-clause-err g c =
    rw c.in-ShowNode.is
    (written_err c.show_node.result c.written-in-ShowNode.result c.written-in-ShowNode.ensures.ok
    c.written-in-ShowNode.ensures.err _ c.show_node.ensures.err)

pub returns-in-Newest-clause-ok : goal.returns-in-Newest-clause-ok
returns-in-Newest-clause-ok g c =
    rw c.in-Newest.is
    (written_ok c.show_newest.result c.written-in-Newest.result c.written-in-Newest.ensures.ok
    c.written-in-Newest.ensures.err (λ text. (refl, text)) c.show_newest.ensures.ok)

pub returns-in-Newest-clause-err : goal.returns-in-Newest-clause-err
returns-in-Newest-clause-err g c =
    rw c.in-Newest.is
    (written_err c.show_newest.result c.written-in-Newest.result c.written-in-Newest.ensures.ok
    c.written-in-Newest.ensures.err _ c.show_newest.ensures.err)

pub returns-in-Alarm-clause-ok : goal.returns-in-Alarm-clause-ok
returns-in-Alarm-clause-ok g c =
    rw c.in-Alarm.is
    (written_ok c.answer_alarm.result c.written-in-Alarm.result c.written-in-Alarm.ensures.ok
    c.written-in-Alarm.ensures.err (λ text. (refl, text)) c.answer_alarm.ensures.ok)

pub returns-in-Alarm-clause-err : goal.returns-in-Alarm-clause-err
returns-in-Alarm-clause-err g c =
    rw c.in-Alarm.is
    (written_err c.answer_alarm.result c.written-in-Alarm.result c.written-in-Alarm.ensures.ok
    c.written-in-Alarm.ensures.err _ c.answer_alarm.ensures.err)

pub returns-in-Snapshot-clause-ok : goal.returns-in-Snapshot-clause-ok
returns-in-Snapshot-clause-ok g c =
    rw c.in-Snapshot.is
    (written_ok c.put_snapshot.result c.written-in-Snapshot.result c.written-in-Snapshot.ensures.ok
    c.written-in-Snapshot.ensures.err (λ text. (refl, text)) c.put_snapshot.ensures.ok)

pub returns-in-Snapshot-clause-err : goal.returns-in-Snapshot-clause-err
returns-in-Snapshot-clause-err g c =
    rw c.in-Snapshot.is
    (written_err c.put_snapshot.result c.written-in-Snapshot.result c.written-in-Snapshot.ensures.ok
    c.written-in-Snapshot.ensures.err _ c.put_snapshot.ensures.err)

pub returns-in-Step-clause-fault : goal.returns-in-Step-clause-fault
returns-in-Step-clause-fault g c = rw c.in-Step.is c.answer_step.ensures.fault

pub returns-in-Inject-clause-fault : goal.returns-in-Inject-clause-fault
returns-in-Inject-clause-fault g c = rw c.in-Inject.is c.answer_fault.ensures.fault

pub returns-in-Draw-clause-fault : goal.returns-in-Draw-clause-fault
returns-in-Draw-clause-fault g c = rw c.in-Draw.is c.answer_draw.ensures.fault

pub returns-in-Watch-clause-fault : goal.returns-in-Watch-clause-fault
returns-in-Watch-clause-fault g c = rw c.in-Watch.is c.answer_watch.ensures.fault

pub returns-in-Show-clause-fault : goal.returns-in-Show-clause-fault
returns-in-Show-clause-fault g c = rw c.in-Show.is (λ failed. refl)

pub returns-in-ShowNode-clause-fault : goal.returns-in-ShowNode-clause-fault
returns-in-ShowNode-clause-fault g c = rw c.in-ShowNode.is (λ failed. refl)

pub returns-in-Newest-clause-fault : goal.returns-in-Newest-clause-fault
returns-in-Newest-clause-fault g c = rw c.in-Newest.is (λ failed. refl)

pub returns-in-Alarm-clause-fault : goal.returns-in-Alarm-clause-fault
returns-in-Alarm-clause-fault g c = rw c.in-Alarm.is (λ failed. refl)

pub returns-in-Snapshot-clause-fault : goal.returns-in-Snapshot-clause-fault
returns-in-Snapshot-clause-fault g c = rw c.in-Snapshot.is (λ failed. refl)
