-- What the program says on standard error of what cut a run short, without the line feed.
use Rattle.std.specs.Prelude.{ℕ, List, codes}
use Rattle.script_replay.specs.declared.status.RunStop.{RunStop}
use Rattle.script_replay.specs.declared.status.RunStop.TheVariants.{ReadFailed, WriteFailed, NoMemory}
use Rattle.script_replay.specs.declared.status.RunStop.TheVariants.{ThreadFailed, NotClosed}

abbrev pub stop_text : RunStop → List ℕ
stop_text ReadFailed = codes "read fault"
stop_text WriteFailed = codes "write fault"
stop_text NoMemory = codes "out of memory"
stop_text ThreadFailed = codes "thread fault"
stop_text NotClosed = codes "lists differ"
