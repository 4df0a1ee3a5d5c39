-- The case that is named is the first from here on that has the name.
use Rattle.std.proofs.Common.{◌≡◌}
use Rattle.script_replay.specs.Script.{case_named}
use Rattle.script_replay.proofs.CaseNames.{named_from}
use Rattle.script_replay.proofs.script.case_called.Given as goal

abbrev pub invariant-loop-case : goal.invariant-loop-case
invariant-loop-case g l = named_from g.P.Application.names l.word l.case ≡ case_named g.P.Application.names l.word
