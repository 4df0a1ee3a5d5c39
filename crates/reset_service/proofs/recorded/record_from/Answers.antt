use Rattle.std.proofs.Common.{◌≡◌, ◌≢◌}
use Rattle.topology.specs.declared.text.ReadFault.TheVariants.{NoMemory}
use Rattle.script_replay.specs.Output.{bad_topology_text}
use Rattle.script_replay.specs.declared.status.Status.TheVariants.{BadInput}
use Rattle.script_replay.proofs.Described.{all_up}
use Rattle.script_replay.proofs.LeftRecords.{record_alone, record_unread, record_weaker}
use Rattle.script_replay.proofs.Reading.{nothing_given, some_read, text_given}
use Rattle.reset_service.specs.Begun.{IsBegunFrom, IsBegunOf, IsBegunText, Records}
use Rattle.reset_service.proofs.Beginning.{begun, unbegun}
use Rattle.script_replay.proofs.ByName.{record_for}
use Rattle.reset_service.proofs.recorded.record_from.Goals as goal

pub record_app-requires : goal.record_app-requires
record_app-requires g c =
    all_up c.args.topology.now c.in-Ok.network.topology c.in-Ok.network.app c.in-Ok.network.modulus c.in-Ok.ensures.ok

pub returns-in-Err-clause-leaves : goal.returns-in-Err-clause-leaves
returns-in-Err-clause-leaves g c =
    let read = some_read (g.R.Read.remaining c.args.script.now) in
    let f = c.in-Err.refused in (
      read.0,
      read.1,
      record_alone (IsBegunText (Records read.0) c.args.topology.now c.args.snapshot.now)
          (λ o. (f ≢ NoMemory) × (o ≡ (bad_topology_text f, BadInput)))
          (λ o is. unbegun (Records read.0) c.args.topology.now c.args.snapshot.now f (c.in-Err.ensures.err is.0) o is.1)
          (g.H.Write.contents c.args.history.now) _ _ c.refuse_topology.result c.refuse_topology.ensures.stop
          c.refuse_topology.ensures.leaves,
    )

pub returns-in-Ok-read_text-clause-leaves : goal.returns-in-Ok-read_text-clause-leaves
returns-in-Ok-read_text-clause-leaves g c = (
  c.deref.result.now,
  rw c.deref.ensures.value c.in-Ok-read_text.ensures.ok,
  record_weaker
      (IsBegunOf (Records c.deref.result.now) c.in-Ok.network.app c.in-Ok.network.topology c.in-Ok.network.modulus
      c.args.snapshot.now)
      (IsBegunText (Records c.deref.result.now) c.args.topology.now c.args.snapshot.now) _ _ _ _ c.record_app.result
      (begun (Records c.deref.result.now) c.args.topology.now c.args.snapshot.now c.in-Ok.network.topology
      c.in-Ok.network.app c.in-Ok.network.modulus c.in-Ok.ensures.ok)
      (record_for
      (λ L m. IsBegunFrom m c.in-Ok.network.topology c.in-Ok.network.modulus c.args.snapshot.now
      (Records c.deref.result.now L m)) c.in-Ok.network.app _ _ _ _ _ c.record_app.ensures),
)

pub returns-in-Err-read_text-clause-leaves : goal.returns-in-Err-read_text-clause-leaves
returns-in-Err-read_text-clause-leaves g c =
    let read = some_read (g.R.Read.remaining c.args.script.now) in (
      read.0,
      read.1,
      record_unread (IsBegunText (Records read.0) c.args.topology.now c.args.snapshot.now)
          (g.H.Write.contents c.args.history.now) (g.W.Write.contents c.args.out.now) c.in-Err-read_text.stop
          c.in-Err-read_text.ensures.err,
    )

pub returns-in-Err-clause-taken : goal.returns-in-Err-clause-taken
returns-in-Err-clause-taken g c = nothing_given c.refuse_topology.result (g.R.Read.remaining c.args.script.now)

pub returns-in-Ok-read_text-clause-taken : goal.returns-in-Ok-read_text-clause-taken
returns-in-Ok-read_text-clause-taken g c =
    text_given c.record_app.result _ _ c.in-Ok-read_text.text.items c.in-Ok-read_text.ensures.taken
    c.in-Ok-read_text.ensures.most
