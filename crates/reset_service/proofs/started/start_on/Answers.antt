use Rattle.std.proofs.Common.{◌≢◌, ◌≤◌, length, rules}
use Rattle.snapshots.specs.declared.fault.SnapshotFault.TheVariants.{NoMemory}
use Rattle.reset_service.proofs.started.start_on.Goals as goal

pub returns-in-Err : goal.returns-in-Err
returns-in-Err g c =
    let memory : c.in-Err.fault ≢ NoMemory = search rules in
    let short : length c.args.snapshot.now ≤ 67108864 = search rules in
    record { short = tt; ok = tt; err = λ known. (short, c.in-Err.ensures.err memory) }
