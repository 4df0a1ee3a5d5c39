use Rattle.topology.proofs.Assembling.{built_parts, built_topology}
use Rattle.topology.proofs.topology.Topology.build.Goals as goal

pub returns-in-Err-clause-err : goal.returns-in-Err-clause-err
returns-in-Err-clause-err c = λ other. c.in-Err.ensures.err other c.args.links.now

pub invariant_of-result : goal.invariant_of-result
invariant_of-result c =
    built_parts c.args.nodes.now c.in_ok-ids-in-Ok.ids c.args.links.now c.in-Ok-checked_rows.near c.in-Ok.ids.items
    c.in_ok-ids-in-Ok.ensures c.in-Ok.ensures.ids c.in-Ok.ensures.sorted
    c.in-Ok-checked_rows.ensures.few c.in-Ok-checked_rows.ensures.apart c.in-Ok-checked_rows.ensures.joined
    c.deref.result.now c.deref.ensures.value c.in_ok-leaders.leaders.items c.in_ok-leaders.ensures

pub returns-clause-ok : goal.returns-clause-ok
returns-clause-ok c =
    built_topology c.args.nodes.now c.in_ok-ids-in-Ok.ids c.args.links.now c.in-Ok-checked_rows.near c.in-Ok.ids.items
    c.in_ok-ids-in-Ok.ensures c.in-Ok.ensures.ids c.in-Ok.ensures.sorted
    c.in-Ok-checked_rows.ensures.few c.in-Ok-checked_rows.ensures.apart c.in-Ok-checked_rows.ensures.joined
