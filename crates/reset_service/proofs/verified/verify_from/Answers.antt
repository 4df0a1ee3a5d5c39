use Rattle.std.proofs.Common.{◌≡◌, ◌≢◌, Some}
use Rattle.topology.specs.declared.text.ReadFault.TheVariants.{NoMemory}
use Rattle.script_replay.specs.Output.{bad_topology_text}
use Rattle.script_replay.specs.Output.IsJudged.{bad_topology, good_topology}
use Rattle.script_replay.specs.declared.status.Status.TheVariants.{BadInput}
use Rattle.reset_service.specs.Opened.{IsOpenedOf, IsOpenedText}
use Rattle.reset_service.specs.Started.{Verifies}
use Rattle.script_replay.proofs.Described.{all_up}
use Rattle.reset_service.proofs.Verifying.{read_anyway, read_weaker}
use Rattle.reset_service.proofs.ByName.{opened_read}
use Rattle.reset_service.proofs.verified.verify_from.Goals as goal

pub verify_app_from-requires : goal.verify_app_from-requires
verify_app_from-requires g c =
    all_up c.args.topology.now c.in-Ok.network.topology c.in-Ok.network.app c.in-Ok.network.modulus c.in-Ok.ensures.ok

pub returns-in-Ok-clause-leaves : goal.returns-in-Ok-clause-leaves
returns-in-Ok-clause-leaves g c =
    read_weaker (g.R.Read.remaining c.args.history.now)
    (λ text. IsOpenedText (Verifies text) c.args.topology.now (Some c.args.snapshot.now))
    (λ text. IsOpenedOf (Verifies text) c.in-Ok.network.app c.in-Ok.network.topology c.in-Ok.network.modulus
    (Some c.args.snapshot.now)) _ _ c.verify_app_from.result
    (λ text o is. good_topology c.in-Ok.network.topology c.in-Ok.network.app c.in-Ok.network.modulus
    c.in-Ok.ensures.ok is) (opened_read (Verifies) c.in-Ok.network.app _ _ _ _ _ _ _ c.verify_app_from.ensures.leaves)

pub returns-in-Err-clause-leaves : goal.returns-in-Err-clause-leaves
returns-in-Err-clause-leaves g c =
    read_anyway (g.R.Read.remaining c.args.history.now)
    (λ text. IsOpenedText (Verifies text) c.args.topology.now (Some c.args.snapshot.now))
    (λ o. (c.in-Err.fault ≢ NoMemory) × (o ≡ (bad_topology_text c.in-Err.fault, BadInput))) _ _
    c.refuse_topology.result
    (λ text o is. bad_topology c.in-Err.fault (c.in-Err.ensures.err is.0) is.1) c.refuse_topology.ensures.leaves
