use Rattle.std.proofs.Common.{None, Some, arith}
use Rattle.reset_model.specs.declared.event.Event.TheVariants.{Act}
use Rattle.history.proofs.ShortLines.{step_has}
use Rattle.history.proofs.line.lemma_act_has_line.Goals as goal

pub returns-in-Some : goal.returns-in-Some
returns-in-Some c =
    let action = Act c.args.at c.args.case (Some c.in-Some.neighbour) in
    rw c.in-Some.is (step_has action (omega arith, omega arith, c.lemma_is_number.ensures))

pub returns-in-None : goal.returns-in-None
returns-in-None c = rw c.in-None.is (step_has (Act c.args.at c.args.case None) (omega arith, omega arith))
