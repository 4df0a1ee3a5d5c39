use Rattle.history_page.proofs.Elsewhere.{entered_elsewhere}
use Rattle.history_page.proofs.laws.failing_elsewhere_stays.Goals as goal

pub returns : goal.returns
returns g start c after e j graph shaped is none =
    entered_elsewhere g.P.Application.app g.P.Application.from_text c graph shaped j e after is none
