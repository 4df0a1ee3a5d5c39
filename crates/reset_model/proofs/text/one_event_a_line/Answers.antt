use Rattle.reset_model.proofs.EventLines.{one_event}
use Rattle.reset_model.proofs.text.one_event_a_line.Goals as goal

pub returns : goal.returns
returns c = one_event
