use Rattle.std.proofs.Common.{◌≡◌, ◌≢◌, OnOk, refl}
use Rattle.topology.specs.declared.text.ReadFault.TheVariants.{NoMemory}
use Rattle.script_replay.specs.Output.{bad_topology_text}
use Rattle.script_replay.specs.Output.IsJudged.{bad_topology, good_topology}
use Rattle.script_replay.specs.declared.status.Status.TheVariants.{BadInput}
use Rattle.std.specs.Prelude.{option_map}
use Rattle.reset_service.specs.Opened.{IsOpenedOf, IsOpenedText}
use Rattle.reset_service.specs.Marked.{MarkedReplay}
use Rattle.script_replay.proofs.Described.{all_up}
use Rattle.script_replay.proofs.Reading.{nothing_given, some_read, text_given}
use Rattle.script_replay.proofs.Runs.{OnOk-always, leaves_unread, leaves_weaker}
use Rattle.reset_service.proofs.ByName.{tallied_for}
use Rattle.reset_service.proofs.marked.replay_marked.Goals as goal

pub replay_app-requires : goal.replay_app-requires
replay_app-requires g c =
    all_up c.args.topology.now c.in-Ok.network.topology c.in-Ok.network.app c.in-Ok.network.modulus c.in-Ok.ensures.ok

pub returns-in-Err-clause-leaves : goal.returns-in-Err-clause-leaves
returns-in-Err-clause-leaves g c =
    let read = some_read (g.R.Read.remaining c.args.script.now) in
    let snapshot = option_map (λ s. s.now) c.args.snapshot in (
      read.0,
      c.args.tally.now,
      read.1,
      OnOk-always _ refl,
      leaves_weaker (λ o. (c.in-Err.fault ≢ NoMemory) × (o ≡ (bad_topology_text c.in-Err.fault, BadInput)))
          (IsOpenedText (MarkedReplay c.args.marks read.0 c.args.tally.now) c.args.topology.now snapshot) _ _
          c.refuse_topology.result
          (λ o is. bad_topology c.in-Err.fault (c.in-Err.ensures.err is.0) is.1) c.refuse_topology.ensures.leaves,
    )

pub returns-in-Ok-read_text-clause-leaves : goal.returns-in-Ok-read_text-clause-leaves
returns-in-Ok-read_text-clause-leaves g c =
    let snapshot = option_map (λ s. s.now) c.args.snapshot in
    let network = c.in-Ok.network in
    let (answered, tally, left) =
    tallied_for (λ t. OnOk c.replay_app.result (c.replay_app.new.tally ≡ t))
    (MarkedReplay c.args.marks c.deref.result.now) network.app network.topology network.modulus snapshot
    (g.W.Write.contents c.args.out.now) (g.W.Write.contents c.replay_app.new.out) c.replay_app.result
    c.replay_app.ensures.leaves
    in (
      c.deref.result.now,
      answered,
      rw c.deref.ensures.value c.in-Ok-read_text.ensures.ok,
      tally,
      leaves_weaker
          (IsOpenedOf (MarkedReplay c.args.marks c.deref.result.now answered) c.in-Ok.network.app
          c.in-Ok.network.topology c.in-Ok.network.modulus snapshot)
          (IsOpenedText (MarkedReplay c.args.marks c.deref.result.now answered) c.args.topology.now snapshot) _ _
          c.replay_app.result
          (λ o is. good_topology c.in-Ok.network.topology c.in-Ok.network.app c.in-Ok.network.modulus c.in-Ok.ensures.ok
          is) left,
    )

pub returns-in-Err-read_text-clause-leaves : goal.returns-in-Err-read_text-clause-leaves
returns-in-Err-read_text-clause-leaves g c =
    let read = some_read (g.R.Read.remaining c.args.script.now) in
    let snapshot = option_map (λ s. s.now) c.args.snapshot in (
      read.0,
      c.args.tally.now,
      read.1,
      tt,
      leaves_unread (IsOpenedText (MarkedReplay c.args.marks read.0 c.args.tally.now) c.args.topology.now snapshot)
          (g.W.Write.contents c.args.out.now) c.in-Err-read_text.stop c.in-Err-read_text.ensures.err,
    )

pub returns-in-Err-clause-taken : goal.returns-in-Err-clause-taken
returns-in-Err-clause-taken g c = nothing_given c.refuse_topology.result (g.R.Read.remaining c.args.script.now)

pub returns-in-Ok-read_text-clause-taken : goal.returns-in-Ok-read_text-clause-taken
returns-in-Ok-read_text-clause-taken g c =
    text_given c.replay_app.result _ _ c.in-Ok-read_text.text.items c.in-Ok-read_text.ensures.taken
    c.in-Ok-read_text.ensures.most
