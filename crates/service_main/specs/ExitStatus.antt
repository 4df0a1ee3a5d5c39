-- The status that the process exits with.
use Rattle.std.specs.Prelude.{ℕ, Result, Ok, Err}
use Rattle.script_replay.specs.declared.status.Status.{Status}
use Rattle.script_replay.specs.declared.status.Status.TheVariants.{Good, FaultsFound, NotEnabled, BadInput}
use Rattle.script_replay.specs.declared.status.RunStop.{RunStop}
use Rattle.script_replay.specs.declared.status.RunStop.TheVariants.{ReadFailed, WriteFailed, NoMemory}
use Rattle.script_replay.specs.declared.status.RunStop.TheVariants.{ThreadFailed, NotClosed}

abbrev pub status_of : Result Status RunStop → ℕ
status_of (Ok Good) = 0
status_of (Ok FaultsFound) = 1
status_of (Ok NotEnabled) = 1
status_of (Ok BadInput) = 2
status_of (Err ReadFailed) = 3
status_of (Err WriteFailed) = 3
status_of (Err NoMemory) = 4
status_of (Err ThreadFailed) = 3
status_of (Err NotClosed) = 1
