use Rattle.std.proofs.Common.{List, ℕ, sym, ◌∙◌, subst}
use Rattle.tree_layer.specs.declared.regs.TreeRegs.{TreeRegs}
use Rattle.tree_layer.specs.TreeTable.{IsView}
use Rattle.reset_model.specs.Configuration.{tree_of}
use Rattle.reset_machine.proofs.NearTrees.{near_is_view}
use Rattle.reset_machine.proofs.enabled.enabled_trees.Goals as goal

pub tree_rows-requires : goal.tree_rows-requires
tree_rows-requires g c =
    let place = c.args.place.now in
    let P : List (ℕ × TreeRegs) → Type 0 = λ near. IsView place.id c.bound.result near in
    let near = c.deref.ensures.value ∙ c.in_ok-read_near_trees.ensures in
    rw c.id.ensures
    (subst P (sym near)
    (near_is_view place.config.graph c.bound.result (tree_of place.config) place.id c.lemma_is_place.ensures.graph
    c.bound.ensures.positive))
