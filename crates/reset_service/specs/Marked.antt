-- What a replay that marks its answers writes.
use Rattle.std.specs.Prelude.{◌≡◌, ℕ, List}
use Rattle.script_replay.specs.Marked.{marked_output}
use Rattle.script_replay.specs.Tallies.{script_tally}
use Rattle.script_replay.specs.declared.marked.Marks.{Marks}
use Rattle.script_replay.specs.declared.tally.Tally.{Tally}
use Rattle.reset_service.specs.Started.{FollowUp}

-- the marked answers to a script, from the configuration where it starts, and how its commands were answered
abbrev pub MarkedReplay : Marks → List ℕ → Tally → FollowUp
MarkedReplay marks script tally L m c output =
    (output ≡ marked_output m marks c script) × (tally ≡ script_tally m marks c script)
