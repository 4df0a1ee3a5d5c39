use Rattle.std.proofs.Common.{List, sym, ap}
use Rattle.reset_model.specs.Configuration.{Configuration, configuration}
use Rattle.reset_machine.proofs.Writing.{put_at-index}
use Rattle.reset_machine.proofs.nodes.Nodes.set_local.Goals as goal

pub returns : goal.returns
returns g c =
    let i = c.self.inside in
    let low = rw (← c.self.view_is) at c.requires in
    let with : List _ → Configuration _ =
    λ xs. configuration i.topology i.modulus i.trees.items i.waves.items xs in
    rw (← c.self.view_is)
    (ap with (sym
    (put_at-index i.topology.ids i.locals.items c.args.index c.args.local c.lemma_is_graph.ensures.graph.ascending
    c.self.invariant.0.locals low)))
