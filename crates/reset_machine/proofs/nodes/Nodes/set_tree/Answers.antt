use Rattle.std.proofs.Common.{List, sym, ap}
use Rattle.tree_layer.specs.declared.regs.TreeRegs.{TreeRegs}
use Rattle.reset_model.specs.Configuration.{Configuration, configuration}
use Rattle.reset_machine.proofs.Writing.{put_at-index}
use Rattle.reset_machine.proofs.nodes.Nodes.set_tree.Goals as goal

pub returns : goal.returns
returns g c =
    let i = c.self.inside in
    let low = rw (← c.self.view_is) at c.requires in
    let with : List TreeRegs → Configuration _ =
    λ xs. configuration i.topology i.modulus xs i.waves.items i.locals.items in
    rw (← c.self.view_is)
    (ap with (sym
    (put_at-index i.topology.ids i.trees.items c.args.index c.args.regs c.lemma_is_graph.ensures.graph.ascending
    c.self.invariant.0.trees low)))
