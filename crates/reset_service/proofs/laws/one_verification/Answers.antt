use Rattle.reset_service.proofs.Verifying.{one_verification as one}
use Rattle.reset_service.proofs.laws.one_verification.Goals as goal

pub returns : goal.returns
returns c = one c.one_reading_a_text.ensures
