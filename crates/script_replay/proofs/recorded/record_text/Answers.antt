use Rattle.std.proofs.Common.{◌≡◌, ◌≢◌}
use Rattle.topology.specs.declared.text.ReadFault.TheVariants.{NoMemory}
use Rattle.script_replay.specs.Output.{bad_topology_text}
use Rattle.script_replay.specs.Recorded.{IsRecordFrom, IsRecordOf, IsRecorded}
use Rattle.script_replay.specs.declared.status.Status.TheVariants.{BadInput}
use Rattle.script_replay.proofs.LeftRecords.{record_alone, record_unread, record_weaker, recorded, unrecorded}
use Rattle.script_replay.proofs.Reading.{nothing_given, some_read, text_given}
use Rattle.script_replay.proofs.ByName.{record_for}
use Rattle.script_replay.proofs.recorded.record_text.Goals as goal

pub returns-in-Err-clause-leaves : goal.returns-in-Err-clause-leaves
returns-in-Err-clause-leaves g c =
    let read = some_read (g.R.Read.remaining c.args.script.now) in
    let f = c.in-Err.refused in (
      read.0,
      read.1,
      record_alone (IsRecorded c.args.topology.now read.0)
          (λ o. (f ≢ NoMemory) × (o ≡ (bad_topology_text f, BadInput)))
          (λ o is. unrecorded c.args.topology.now read.0 f (c.in-Err.ensures.err is.0) o is.1)
          (g.H.Write.contents c.args.history.now) _ _ c.refuse_topology.result c.refuse_topology.ensures.stop
          c.refuse_topology.ensures.leaves,
    )

pub returns-in-Ok-read_text-clause-leaves : goal.returns-in-Ok-read_text-clause-leaves
returns-in-Ok-read_text-clause-leaves g c = (
  c.deref.result.now,
  rw c.deref.ensures.value c.in-Ok-read_text.ensures.ok,
  record_weaker (IsRecordOf c.in-Ok.network.app c.in-Ok.network.topology c.in-Ok.network.modulus c.deref.result.now)
      (IsRecorded c.args.topology.now c.deref.result.now) _ _ _ _ c.record_app.result
      (recorded c.args.topology.now c.deref.result.now c.in-Ok.network.topology c.in-Ok.network.app
      c.in-Ok.network.modulus c.in-Ok.ensures.ok)
      (record_for (λ L m. IsRecordFrom m c.in-Ok.network.topology c.in-Ok.network.modulus c.deref.result.now)
      c.in-Ok.network.app _ _ _ _ _ c.record_app.ensures),
)

pub returns-in-Err-read_text-clause-leaves : goal.returns-in-Err-read_text-clause-leaves
returns-in-Err-read_text-clause-leaves g c =
    let read = some_read (g.R.Read.remaining c.args.script.now) in (
      read.0,
      read.1,
      record_unread (IsRecorded c.args.topology.now read.0) (g.H.Write.contents c.args.history.now)
          (g.W.Write.contents c.args.out.now) c.in-Err-read_text.stop c.in-Err-read_text.ensures.err,
    )

pub returns-in-Err-clause-taken : goal.returns-in-Err-clause-taken
returns-in-Err-clause-taken g c = nothing_given c.refuse_topology.result (g.R.Read.remaining c.args.script.now)

pub returns-in-Ok-read_text-clause-taken : goal.returns-in-Ok-read_text-clause-taken
returns-in-Ok-read_text-clause-taken g c =
    text_given c.record_app.result _ _ c.in-Ok-read_text.text.items c.in-Ok-read_text.ensures.taken
    c.in-Ok-read_text.ensures.most
