use Rattle.std.proofs.Common.{sym, subst}
use Rattle.topology.specs.Graph.{IsNode}
use Rattle.tree_layer.specs.declared.regs.TreeRegs.{TreeRegs}
use Rattle.recovery.proofs.ForgetSteps.{target_top}
use Rattle.recovery.proofs.forgetting.is_false.Goals as goal

pub regs_at-up-requires-after_bounds : goal.regs_at-up-requires-after_bounds
regs_at-up-requires-after_bounds g c κs within =
    let P : TreeRegs → Type 0 = λ r. IsNode c.args.config.now.graph r.root in
    subst P (sym c.regs_at-place.ensures)
    (target_top c.args.config.now c.args.target.now c.args.id c.lemma_is_graph.ensures.graph c.requires.target c.requires.node)
