use Rattle.std.proofs.Common.{take}
use Rattle.std.specs.Io.KnownBytes.{Appends}
use Rattle.history.specs.HistoryText.{entries_text}
use Rattle.history.specs.Stretches.{steps}
use Rattle.reset_service.proofs.shown.put_steps.Given as goal

abbrev pub invariant-loop-event : goal.invariant-loop-event
invariant-loop-event g l =
    Appends (g.W.Write.contents l.initial.out) (g.W.Write.contents l.out) (entries_text (steps (take l.event-index l.events)))
