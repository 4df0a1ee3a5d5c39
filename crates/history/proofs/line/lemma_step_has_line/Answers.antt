use Rattle.reset_model.specs.declared.event.Event.TheVariants.{Claim, Follow, Adopt, Request, Relay, Open, Join}
use Rattle.reset_model.specs.declared.event.Event.TheVariants.{Finish, Mend}
use Rattle.history.proofs.ShortLines.{step_has}
use Rattle.history.proofs.line.lemma_step_has_line.Goals as goal

pub returns-in-Claim : goal.returns-in-Claim
returns-in-Claim c = rw c.in-Claim.is (step_has (Claim c.in-Claim.at) c.lemma_is_number.ensures)

pub returns-in-Follow : goal.returns-in-Follow
returns-in-Follow c = rw c.in-Follow.is (step_has (Follow c.in-Follow.at) c.lemma_is_number-in-Follow.ensures)

pub returns-in-Adopt : goal.returns-in-Adopt
returns-in-Adopt c =
    let fit = c.lemma_are_numbers.ensures in
    rw c.in-Adopt.is (step_has (Adopt c.in-Adopt.at c.in-Adopt.from) (fit.first, fit.second))

pub returns-in-Request : goal.returns-in-Request
returns-in-Request c = rw c.in-Request.is (step_has (Request c.in-Request.at) c.lemma_is_number-in-Request.ensures)

pub returns-in-Relay : goal.returns-in-Relay
returns-in-Relay c =
    let fit = c.lemma_are_numbers-in-Relay.ensures in
    rw c.in-Relay.is (step_has (Relay c.in-Relay.at c.in-Relay.child) (fit.first, fit.second))

pub returns-in-Open : goal.returns-in-Open
returns-in-Open c = rw c.in-Open.is (step_has (Open c.in-Open.at) c.lemma_is_number-in-Open.ensures)

pub returns-in-Join : goal.returns-in-Join
returns-in-Join c = rw c.in-Join.is (step_has (Join c.in-Join.at) c.lemma_is_number-in-Join.ensures)

pub returns-in-Finish : goal.returns-in-Finish
returns-in-Finish c = rw c.in-Finish.is (step_has (Finish c.in-Finish.at) c.lemma_is_number-in-Finish.ensures)

pub returns-in-Mend : goal.returns-in-Mend
returns-in-Mend c = rw c.in-Mend.is (step_has (Mend c.in-Mend.at) c.lemma_is_number-in-Mend.ensures)

pub returns-in-Act : goal.returns-in-Act
returns-in-Act c = rw c.in-Act.is c.lemma_act_has_line.ensures
