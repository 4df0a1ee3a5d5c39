use Rattle.std.proofs.Common.{Ok, Err, subst}
use Rattle.app_routes.specs.Entries.{IsPlaceOf}
use Rattle.app_routes.proofs.Places.{hops_at, no_hops}
use Rattle.app_routes.proofs.local.RoutesLocal.hops_to.Goals as goal

pub returns-in-Ok : goal.returns-in-Ok
returns-in-Ok c =
    let entries = c.entries-entries.ensures in
    rw entries.value
    (hops_at c.args.self.now entries.routes.ascending c.args.destination c.in-Ok.place
    (record { destination = 0; hops = 0; next = 0 })
    (subst (λ es. IsPlaceOf es c.args.destination (Ok c.in-Ok.place)) entries.value c.in-Ok.ensures))

pub returns-in-Err : goal.returns-in-Err
returns-in-Err c =
    let entries = c.entries-entries.ensures in
    no_hops c.args.self.now entries.routes.ascending c.args.destination c.in-Err.field-0
    (record { destination = 0; hops = 0; next = 0 })
    (subst (λ es. IsPlaceOf es c.args.destination (Err c.in-Err.field-0)) entries.value c.in-Err.ensures)
