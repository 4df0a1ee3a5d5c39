use Rattle.history_page.proofs.Harmless.{data_none}
use Rattle.history_page.proofs.laws.data_is_harmless.Goals as goal

pub returns : goal.returns
returns g c = data_none g.P.Application.app g.P.Application.text g.P.Application.from_text
