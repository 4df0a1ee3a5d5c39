use Rattle.std.proofs.Common.{refl, sym}
use Rattle.reset_model.proofs.NodePositions.{no_node_placed, node_placed}
use Rattle.reset_machine.proofs.Writing.{local_written}
use Rattle.reset_machine.proofs.config.Config.put_local.Goals as goal

pub returns-in-Some-clause-ok : goal.returns-in-Some-clause-ok
returns-in-Some-clause-ok g c =
    let placed =
    node_placed c.args.self.now.graph c.args.at _
    (rw (c.topology.ensures, c.self.view_is) at (sym c.in-Some.ensures)) in
    let found = placed.1 in (
      placed.0,
      local_written c.args.self.now c.set_local.new.self c.args.at _ found c.args.local c.set_local.ensures,
    )

pub returns-in-None-clause-err : goal.returns-in-None-clause-err
returns-in-None-clause-err g c =
    let missing = rw (c.topology.ensures, c.self.view_is) at (sym c.in-None.ensures) in (
      refl,
      no_node_placed c.args.self.now.graph (rw (← c.self.view_is) c.lemma_is_graph.ensures.graph) c.args.at missing,
    )
