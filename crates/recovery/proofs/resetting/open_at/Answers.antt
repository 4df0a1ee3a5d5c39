use Rattle.recovery.proofs.Healing.{on_ok}
use Rattle.recovery.proofs.resetting.open_at.Goals as goal

pub returns-clause-tried : goal.returns-clause-tried
returns-clause-tried g c =
    on_ok c.take_if_enabled-2.result _ _
    (λ opens. (c.take_if_enabled.new.self, c.in_ok-take_if_enabled.ensures.tried, opens))
    c.take_if_enabled-2.ensures.tried
