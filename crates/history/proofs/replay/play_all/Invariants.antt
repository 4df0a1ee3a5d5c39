-- The entries from the index on leave from here what all leave from the start.
use Rattle.std.proofs.Common.{◌≡◌, drop}
use Rattle.history.specs.Entries.{replayed}
use Rattle.history.proofs.replay.play_all.Given as goal

abbrev pub invariant-loop-entry : goal.invariant-loop-entry
invariant-loop-entry g l =
    replayed g.P.Application.app g.P.Application.from_text l.config (drop l.entry-index l.entries)
    ≡ replayed g.P.Application.app g.P.Application.from_text l.fn.config l.entries
