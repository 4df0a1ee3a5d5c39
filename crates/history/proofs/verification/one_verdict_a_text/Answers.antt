use Rattle.history.proofs.Verdicts.{one_verdict}
use Rattle.history.proofs.verification.one_verdict_a_text.Goals as goal

pub returns : goal.returns
returns g c = one_verdict g.P.Application.app g.P.Application.from_text
