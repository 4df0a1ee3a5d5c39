-- The lines that were passed are none of them the separator.
use Rattle.std.proofs.Common.{◌≡◌, ℕ, List, ◌++◌, length}
use Rattle.std.specs.List.{flat_map}
use Rattle.history.specs.HistoryText.{ended}
use Rattle.script_replay.specs.Lines.{lines_of, HasNoSeparator}
use Rattle.script_replay.proofs.input.cut_joined.Given as goal

abbrev pub invariant-loop-line : goal.invariant-loop-line
invariant-loop-line l =
    (prefix : List (List ℕ)) × (lines_of l.joined ≡ prefix ++ lines_of l.rest)
    × (l.joined ≡ flat_map ended prefix ++ l.rest) × HasNoSeparator prefix

abbrev pub decreases-loop-line : goal.decreases-loop-line
decreases-loop-line l = length l.rest
