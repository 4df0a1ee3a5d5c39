use Rattle.std.proofs.Common.{◌≢◌, rules}
use Rattle.topology.specs.declared.text.ReadFault.TheVariants.{NoMemory}
use Rattle.reset_service.specs.Drove.{IsDroveFrom}
use Rattle.reset_service.specs.Threaded.{told_history, told_output}
use Rattle.reset_service.proofs.ByName.{told_for}
use Rattle.reset_service.proofs.Driving.{droved, undroved}
use Rattle.reset_service.proofs.driven.drive_topology.Goals as goal

pub returns-in-Ok-clause-ok : goal.returns-in-Ok-clause-ok
returns-in-Ok-clause-ok c =
    droved c.args.run.steps c.args.run.seed c.args.run.faults c.args.topology.now c.in-Ok.network.topology
    c.in-Ok.network.app c.in-Ok.network.modulus c.drive_app.result c.in-Ok.ensures.ok
    (told_for
    (λ L m told. IsDroveFrom m c.args.run.steps c.args.run.seed c.args.run.faults c.in-Ok.network.topology
    c.in-Ok.network.modulus (told_history told) (told_output told)) c.in-Ok.network.app c.drive_app.result
    c.drive_app.ensures.ok)
    c.drive_app.ensures.undriven

pub returns-in-Err-clause-ok : goal.returns-in-Err-clause-ok
returns-in-Err-clause-ok c =
    let memory : c.in-Err.fault ≢ NoMemory = search rules in
    undroved c.args.run.steps c.args.run.seed c.args.run.faults c.args.topology.now c.in-Err.fault
    (c.in-Err.ensures.err memory)
