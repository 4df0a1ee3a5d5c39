use Rattle.reset_machine.proofs.config.Config.enabled.Goals as goal

pub returns-in_ok-enabled_at-in-Some-clause-ok : goal.returns-in_ok-enabled_at-in-Some-clause-ok
returns-in_ok-enabled_at-in-Some-clause-ok g c =
    let place = c.in-Some.ensures.found in
    rw (← c.self.view_is) (c.in-Some.ensures.node, rw (place.0, place.1) at c.in_ok-enabled_at-in-Some.ensures)
