use Rattle.std.proofs.Common.{sym, subst, arith}
use Rattle.std.proofs.lemmas.List.{with_items_is}
use Rattle.topology.specs.Rows.{AreLeaders}
use Rattle.topology.proofs.Inserting.{rows_of}
use Rattle.topology.proofs.leaders.leaders_of.Goals as goal

pub returns : goal.returns
returns c =
    λ ids nodes tied same.
    subst (AreLeaders ids nodes (rows_of c.args.near.now))
    (sym (with_items_is c.in_ok-leaders.leaders c.fill_leaders.new.leaders
    (omega (arith, c.fill_leaders.auto.leaders, c.deref_mut.ensures.len))))
    (c.fill_leaders.ensures ids nodes tied same)
