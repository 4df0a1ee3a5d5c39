use Rattle.std.proofs.lemmas.Slice.Eq.{slice_eq-Decides}
use Rattle.app_routes.proofs.SameEntries.{same_entry}
use Rattle.app_routes.proofs.local.RoutesLocal.same.Goals as goal

pub returns : goal.returns
returns c = rw (← c.entries.ensures.value, ← c.entries-2.ensures.value) (slice_eq-Decides same_entry _ _ _ c.eq.ensures)
