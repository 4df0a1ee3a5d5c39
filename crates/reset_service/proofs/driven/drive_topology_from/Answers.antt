use Rattle.std.proofs.Common.{◌≢◌, refl, rules}
use Rattle.topology.specs.declared.text.ReadFault.TheVariants.{NoMemory}
use Rattle.reset_service.specs.Begun.{Drives, IsBegunFrom}
use Rattle.script_replay.proofs.Described.{all_up}
use Rattle.reset_service.specs.Threaded.{told_history, told_output}
use Rattle.reset_service.proofs.ByName.{told_for}
use Rattle.reset_service.proofs.Beginning.{told_begun, unbegun}
use Rattle.reset_service.proofs.driven.drive_topology_from.Goals as goal

pub drive_app_from-requires : goal.drive_app_from-requires
drive_app_from-requires c =
    all_up c.args.topology.now c.in-Ok.network.topology c.in-Ok.network.app c.in-Ok.network.modulus c.in-Ok.ensures.ok

pub returns-in-Ok-clause-ok : goal.returns-in-Ok-clause-ok
returns-in-Ok-clause-ok c =
    let run = c.args.run in
    told_begun (Drives run.steps run.seed run.faults) c.args.topology.now c.args.snapshot.now c.in-Ok.network.topology
    c.in-Ok.network.app c.in-Ok.network.modulus c.in-Ok.ensures.ok c.drive_app_from.result
    (told_for
    (λ L m told. IsBegunFrom m c.in-Ok.network.topology c.in-Ok.network.modulus c.args.snapshot.now
    (Drives run.steps run.seed run.faults L m) (told_history told) (told_output told)) c.in-Ok.network.app
    c.drive_app_from.result c.drive_app_from.ensures.ok)

pub returns-in-Err-clause-ok : goal.returns-in-Err-clause-ok
returns-in-Err-clause-ok c =
    let run = c.args.run in
    let memory : c.in-Err.fault ≢ NoMemory = search rules in
    unbegun (Drives run.steps run.seed run.faults) c.args.topology.now c.args.snapshot.now c.in-Err.fault
    (c.in-Err.ensures.err memory) _ refl
