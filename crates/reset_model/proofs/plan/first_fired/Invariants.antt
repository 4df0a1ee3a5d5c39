use Rattle.std.proofs.Common.{◌≡◌, drop}
use Rattle.reset_model.specs.LocalSteps.{first_fired}
use Rattle.reset_model.proofs.plan.first_fired.Given as goal

-- what the rows that are left do is what all of them do
abbrev pub invariant-loop-case : goal.invariant-loop-case
invariant-loop-case l = first_fired l.seen l.named (drop l.case-index l.cases) ≡ first_fired l.seen l.named l.cases
