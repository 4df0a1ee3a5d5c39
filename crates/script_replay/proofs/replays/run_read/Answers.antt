use Rattle.std.proofs.Common.{◌≡◌, ◌≢◌}
use Rattle.script_replay.specs.Output.{IsOutput, IsReplay, IsReplayOf, bad_topology_text}
use Rattle.script_replay.specs.Output.IsJudged.{bad_topology, good_topology}
use Rattle.script_replay.specs.declared.status.Status.TheVariants.{BadInput}
use Rattle.topology.specs.declared.text.ReadFault.TheVariants.{NoMemory}
use Rattle.script_replay.proofs.Runs.{leaves_unread, leaves_weaker}
use Rattle.script_replay.proofs.Reading.{nothing_given, some_read, text_given}
use Rattle.script_replay.proofs.ByName.{left_for}
use Rattle.script_replay.proofs.replays.run_read.Goals as goal

pub returns-in-Err-clause-leaves : goal.returns-in-Err-clause-leaves
returns-in-Err-clause-leaves g c =
    let read = some_read (g.R.Read.remaining c.args.script.now) in (
      read.0,
      read.1,
      leaves_weaker (λ o. (c.in-Err.refused ≢ NoMemory) × (o ≡ (bad_topology_text c.in-Err.refused, BadInput)))
          (IsOutput c.args.purpose c.args.topology.now read.0) _ _ c.refuse_topology.result
          (λ o is. bad_topology c.in-Err.refused (c.in-Err.ensures.err is.0) is.1) c.refuse_topology.ensures.leaves,
    )

pub returns-in-Ok-read_text-clause-leaves : goal.returns-in-Ok-read_text-clause-leaves
returns-in-Ok-read_text-clause-leaves g c = (
  c.deref.result.now,
  rw c.deref.ensures.value c.in-Ok-read_text.ensures.ok,
  leaves_weaker
      (IsReplayOf c.in-Ok.network.app c.args.purpose c.in-Ok.network.topology c.in-Ok.network.modulus
      c.deref.result.now)
      (IsOutput c.args.purpose c.args.topology.now c.deref.result.now) _ _ c.run_app.result
      (λ o is. good_topology c.in-Ok.network.topology c.in-Ok.network.app c.in-Ok.network.modulus c.in-Ok.ensures.ok
      is)
      (left_for (λ L m. IsReplay m c.args.purpose c.in-Ok.network.topology c.in-Ok.network.modulus c.deref.result.now)
      c.in-Ok.network.app _ _ _ c.run_app.ensures.leaves),
)

pub returns-in-Err-read_text-clause-leaves : goal.returns-in-Err-read_text-clause-leaves
returns-in-Err-read_text-clause-leaves g c =
    let read = some_read (g.R.Read.remaining c.args.script.now) in (
      read.0,
      read.1,
      leaves_unread (IsOutput c.args.purpose c.args.topology.now read.0)
          (g.W.Write.contents c.args.out.now) c.in-Err-read_text.stop c.in-Err-read_text.ensures.err,
    )

pub returns-in-Err-clause-taken : goal.returns-in-Err-clause-taken
returns-in-Err-clause-taken g c = nothing_given c.refuse_topology.result (g.R.Read.remaining c.args.script.now)

pub returns-in-Ok-read_text-clause-taken : goal.returns-in-Ok-read_text-clause-taken
returns-in-Ok-read_text-clause-taken g c =
    text_given c.run_app.result _ _ c.in-Ok-read_text.text.items c.in-Ok-read_text.ensures.taken
    c.in-Ok-read_text.ensures.most
