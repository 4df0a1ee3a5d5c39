use Rattle.history.proofs.HistoryReadings.{one_reading}
use Rattle.history.proofs.text.one_reading_a_text.Goals as goal

pub returns : goal.returns
returns c = one_reading
