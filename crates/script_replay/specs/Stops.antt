-- What cuts short a run that only reads, one that only writes, and one of node threads before it writes: want of
-- memory, or the device, or the threads.
use Rattle.std.specs.Prelude.{⊤}
use Rattle.script_replay.specs.declared.status.RunStop.{RunStop}
use Rattle.script_replay.specs.declared.status.RunStop.TheVariants.{ReadFailed, WriteFailed, NoMemory}
use Rattle.script_replay.specs.declared.status.RunStop.TheVariants.{ThreadFailed, NotClosed}

abbrev pub IsInputStop : RunStop → Type 0
IsInputStop ReadFailed = ⊤
IsInputStop WriteFailed = ⊥
IsInputStop NoMemory = ⊤
IsInputStop ThreadFailed = ⊥
IsInputStop NotClosed = ⊥

abbrev pub IsOutputStop : RunStop → Type 0
IsOutputStop ReadFailed = ⊥
IsOutputStop WriteFailed = ⊤
IsOutputStop NoMemory = ⊤
IsOutputStop ThreadFailed = ⊥
IsOutputStop NotClosed = ⊥

abbrev pub IsRunStop : RunStop → Type 0
IsRunStop ReadFailed = ⊥
IsRunStop WriteFailed = ⊥
IsRunStop NoMemory = ⊤
IsRunStop ThreadFailed = ⊤
IsRunStop NotClosed = ⊤
