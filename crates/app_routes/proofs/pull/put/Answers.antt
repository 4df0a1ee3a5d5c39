use Rattle.std.proofs.Common.{Ok, Err, set, subst, ◌∙◌}
use Rattle.std.proofs.lemmas.List.{length-set}
use Rattle.app_routes.specs.Entries.{IsPlaceOf}
use Rattle.app_routes.proofs.Places.{put_at, put_in, refill_same}
use Rattle.app_routes.proofs.pull.put.Goals as goal

pub returns-in-Ok : goal.returns-in-Ok
returns-in-Ok c =
    let es = c.args.entries.now.items in
    rw c.as_mut_slice.ensures.value
    (refill_same es (set es c.in-Ok.place c.args.entry) (length-set es c.in-Ok.place c.args.entry)
    ∙ put_at es c.requires.routes.ascending c.args.entry c.in-Ok.place
    (subst (λ l. IsPlaceOf l c.args.entry.destination (Ok c.in-Ok.place)) c.as_slice.ensures c.in-Ok.ensures))

pub returns-in_ok-insert-in-Err : goal.returns-in_ok-insert-in-Err
returns-in_ok-insert-in-Err c =
    c.in_ok-insert-in-Err.ensures.ok
    ∙ put_in c.args.entries.now.items c.requires.routes.ascending c.args.entry c.in-Err.place
    (subst (λ l. IsPlaceOf l c.args.entry.destination (Err c.in-Err.place)) c.as_slice.ensures c.in-Err.ensures)
