use Rattle.diagnoses.proofs.HelpLines.{begins_with_two}
use Rattle.diagnoses.proofs.commands.name_of_two.Goals as goal

pub returns-in-len1-up : goal.returns-in-len1-up
returns-in-len1-up c =
    begins_with_two c.args.help.now c.in_ok-first.first.now c.in_ok-second.second.now c.in_ok-first.rest.now
    c.in_ok-second.field-0-1.now c.in_ok-first.ensures.found c.in_ok-second.ensures.found
