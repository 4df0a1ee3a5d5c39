use Rattle.std.proofs.Common.{[], length, subst}
use Rattle.topology.proofs.Inserting.{rows_of}
use Rattle.app_invariants.specs.Parities.{PushesShifted}
use Rattle.app_invariants.proofs.Doubling.{doubled_rows}
use Rattle.app_invariants.proofs.parities.doubled.Goals as goal

pub returns : goal.returns
returns c =
    let g = c.args.topology.now in
    doubled_rows g (rows_of c.push_shifted.new.rows.items) (rows_of c.push_shifted-2.new.rows.items)
    (subst (λ m. PushesShifted g m (length g.ids) [] (rows_of c.push_shifted.new.rows.items)) c.len.ensures
    (subst (λ items. PushesShifted g c.len.result (length g.ids) (rows_of items) (rows_of c.push_shifted.new.rows.items))
    c.new-rows.ensures.items c.in_ok-push_shifted.ensures))
    c.in_ok-push_shifted-2.ensures
