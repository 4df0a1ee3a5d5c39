-- Whether a line is a refusal is asked of the lines that are left.
use Rattle.std.proofs.Common.{◌≡◌, length}
use Rattle.std.specs.List.{list_any}
use Rattle.script_replay.specs.Lines.{lines_of}
use Rattle.script_replay.specs.Marked.{is_refusal, is_refused}
use Rattle.script_replay.proofs.marked.is_refused.Given as goal

abbrev pub invariant-loop-line : goal.invariant-loop-line
invariant-loop-line l = is_refused l.text ≡ list_any is_refusal (lines_of l.rest)

abbrev pub decreases-loop-line : goal.decreases-loop-line
decreases-loop-line l = length l.rest
