-- The reports before the index were added.
use Rattle.std.proofs.Common.{◌≡◌, ◌++◌, take}
use Rattle.std.specs.List.{flat_map}
use Rattle.history_page.specs.Entries.{report_text}
use Rattle.history_page.proofs.entry.add_reports.Given as goal

abbrev pub invariant-loop-report : goal.invariant-loop-report
invariant-loop-report l =
    l.line.items ≡ l.initial.line.items ++ flat_map report_text (take l.report-index l.reports)
