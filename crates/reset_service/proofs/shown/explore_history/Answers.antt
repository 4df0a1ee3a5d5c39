use Rattle.std.proofs.Common.{◌≡◌, ◌≢◌, [], refl}
use Rattle.std.specs.Prelude.{option_map}
use Rattle.topology.specs.declared.text.ReadFault.TheVariants.{NoMemory}
use Rattle.script_replay.specs.Output.{bad_topology_text}
use Rattle.script_replay.specs.Output.IsJudged.{bad_topology, good_topology}
use Rattle.script_replay.specs.declared.status.Status.TheVariants.{BadInput}
use Rattle.script_replay.proofs.Described.{all_up}
use Rattle.script_replay.proofs.LeftRecords.{record_alone, record_unread, record_weaker}
use Rattle.script_replay.proofs.Reading.{nothing_given, some_read, text_given}
use Rattle.reset_service.specs.Opened.{IsOpenedOf}
use Rattle.reset_service.specs.Shown.{IsShownText, Shows}
use Rattle.reset_service.proofs.ByName.{shown_for}
use Rattle.reset_service.proofs.shown.explore_history.Goals as goal

pub show_app-requires : goal.show_app-requires
show_app-requires g c =
    all_up c.args.topology.now c.in-Ok.network.topology c.in-Ok.network.app c.in-Ok.network.modulus c.in-Ok.ensures.ok

pub returns-in-Err-clause-leaves : goal.returns-in-Err-clause-leaves
returns-in-Err-clause-leaves g c =
    let read = some_read (g.R.Read.remaining c.args.script.now) in
    let snapshot = option_map (λ s. s.now) c.args.snapshot in (
      read.0,
      read.1,
      record_alone (IsShownText c.args.run read.0 c.args.topology.now snapshot)
          (λ o. (c.in-Err.fault ≢ NoMemory) × (o ≡ (bad_topology_text c.in-Err.fault, BadInput)))
          (λ o is.
          record { opened = bad_topology c.in-Err.fault (c.in-Err.ensures.err is.0) is.1; unkept = λ _. refl })
          (g.H.Write.contents c.args.history.now) _ _ c.refuse_topology.result c.refuse_topology.ensures.stop
          c.refuse_topology.ensures.leaves,
    )

pub returns-in-Ok-read_text-clause-leaves : goal.returns-in-Ok-read_text-clause-leaves
returns-in-Ok-read_text-clause-leaves g c =
    let snapshot = option_map (λ s. s.now) c.args.snapshot in
    let text = c.deref.result.now in (
      text,
      rw c.deref.ensures.value c.in-Ok-read_text.ensures.ok,
      record_weaker
          (λ h o. IsOpenedOf (Shows c.args.run text h) c.in-Ok.network.app c.in-Ok.network.topology c.in-Ok.network.modulus
          snapshot o × (o.1 ≡ BadInput → h ≡ []))
          (IsShownText c.args.run text c.args.topology.now snapshot) _ _ _ _ c.show_app.result
          (λ h o is.
          record {
            opened = good_topology c.in-Ok.network.topology c.in-Ok.network.app c.in-Ok.network.modulus c.in-Ok.ensures.ok is.0;
            unkept = is.1;
          })
          (shown_for (Shows c.args.run text) (λ h o. o.1 ≡ BadInput → h ≡ []) c.in-Ok.network.app _ _ _ _ _ _ _ _
          c.show_app.ensures),
    )

pub returns-in-Err-read_text-clause-leaves : goal.returns-in-Err-read_text-clause-leaves
returns-in-Err-read_text-clause-leaves g c =
    let read = some_read (g.R.Read.remaining c.args.script.now) in
    let snapshot = option_map (λ s. s.now) c.args.snapshot in (
      read.0,
      read.1,
      record_unread (IsShownText c.args.run read.0 c.args.topology.now snapshot)
          (g.H.Write.contents c.args.history.now) (g.W.Write.contents c.args.out.now) c.in-Err-read_text.stop
          c.in-Err-read_text.ensures.err,
    )

pub returns-in-Err-clause-taken : goal.returns-in-Err-clause-taken
returns-in-Err-clause-taken g c = nothing_given c.refuse_topology.result (g.R.Read.remaining c.args.script.now)

pub returns-in-Ok-read_text-clause-taken : goal.returns-in-Ok-read_text-clause-taken
returns-in-Ok-read_text-clause-taken g c =
    text_given c.show_app.result _ _ c.in-Ok-read_text.text.items c.in-Ok-read_text.ensures.taken
    c.in-Ok-read_text.ensures.most
