-- The lines that tell the faults of snapshots.
use Rattle.std.specs.Prelude.{ℕ, List, codes}
use Rattle.history.specs.HistoryText.{ended}
use Rattle.script_replay.specs.Output.{numbered, numbered_twice}
use Rattle.snapshots.specs.declared.fault.SnapshotFault.{SnapshotFault}
use Rattle.snapshots.specs.declared.fault.SnapshotFault.TheVariants.{BadLine, BadVersion, StrangeNode, TwiceNode}
use Rattle.snapshots.specs.declared.fault.SnapshotFault.TheVariants.{SelfLink, TwiceLink, TooManyLinks, NoMemory}

abbrev pub bad_snapshot_text : SnapshotFault → List ℕ
bad_snapshot_text (BadLine n) = numbered (codes "bad snapshot BadLine ") n
bad_snapshot_text BadVersion = ended (codes "bad snapshot BadVersion")
bad_snapshot_text (StrangeNode i) = numbered (codes "bad snapshot StrangeNode ") i
bad_snapshot_text (TwiceNode i) = numbered (codes "bad snapshot TwiceNode ") i
bad_snapshot_text (SelfLink a) = numbered (codes "bad snapshot SelfLink ") a
bad_snapshot_text (TwiceLink a b) = numbered_twice (codes "bad snapshot TwiceLink ") a b
bad_snapshot_text TooManyLinks = ended (codes "bad snapshot TooManyLinks")
bad_snapshot_text NoMemory = ended (codes "bad snapshot NoMemory")
