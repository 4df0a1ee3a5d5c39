-- The lines of the reports before the index were written, and the reports from it on are of entries that weren't
-- played.
use Rattle.std.proofs.Common.{◌≡◌, Some, drop, length, take}
use Rattle.std.specs.List.{flat_map}
use Rattle.std.specs.Io.KnownBytes.{Appends}
use Rattle.history.specs.Entries.{replayed}
use Rattle.space_time_diagram.specs.Completions.{AreInTurn, told_completion}
use Rattle.space_time_diagram.proofs.completion.put_each.Given as goal

abbrev pub invariant-loop-report : goal.invariant-loop-report
invariant-loop-report g l =
    let app = g.P.Application.app in
    let from_text = g.P.Application.from_text in
    Appends (g.W.Write.contents l.initial.out) (g.W.Write.contents l.out)
    (flat_map (told_completion app from_text l.nodes l.before l.opening l.entries) (take l.report-index l.reports))
    × (replayed app from_text l.opening (take l.played l.entries) ≡ Some l.config)
    × AreInTurn l.played (length l.entries) (drop l.report-index l.reports)
