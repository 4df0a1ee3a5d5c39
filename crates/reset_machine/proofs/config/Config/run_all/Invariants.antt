-- The events before the index were tried, and there is room to tell what comes of the others.
use Rattle.std.proofs.Common.{◌≡◌, ◌≤◌, length, take}
use Rattle.std.specs.Vec.{vec_capacity}
use Rattle.reset_model.specs.Runs.{IsRun}
use Rattle.reset_model.specs.Sound.{IsSound}
use Rattle.reset_machine.proofs.config.Config.run_all.Given as goal

abbrev pub invariant-loop-event : goal.invariant-loop-event
invariant-loop-event g l =
    IsRun g.P.Application.app l.initial.self (take l.event-index l.events) l.done.items l.self
    × (length l.done.items ≡ l.event-index) × (length l.events ≤ vec_capacity l.done)
    × (IsSound l.initial.self → IsSound l.self)
