use Rattle.script_replay.proofs.Described.{all_up}
use Rattle.diagnoses.proofs.snapshot_text.put_snapshot_fault.Goals as goal

pub put_fault_on-requires : goal.put_fault_on-requires
put_fault_on-requires g c =
    all_up c.args.topology.now c.in-Ok.network.topology c.in-Ok.network.app c.in-Ok.network.modulus c.in-Ok.ensures.ok
