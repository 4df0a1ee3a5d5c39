use Rattle.std.proofs.Common.{List, ℕ, sym, subst}
use Rattle.tree_layer.specs.declared.regs.TreeRegs.{TreeRegs}
use Rattle.tree_layer.specs.TreeTable.{IsView}
use Rattle.topology.specs.Graph.{node_bound}
use Rattle.reset_model.specs.Configuration.{tree_of}
use Rattle.reset_model.proofs.Positions.{none_is_no_some}
use Rattle.reset_machine.proofs.NearTrees.{near_is_view}
use Rattle.reset_model.proofs.Planned.{tree_view_of-parts}
use Rattle.reset_machine.proofs.view.tree_view.Goals as goal

pub unreachable-requires : goal.unreachable-requires
unreachable-requires g c =
    let place = c.args.place.now in
    let P : List (ℕ × TreeRegs) → Type 0 = λ near. IsView place.id c.bound.result near in
    let is_view =
    subst P (sym c.requires)
    (near_is_view place.config.graph c.bound.result (tree_of place.config) place.id c.lemma_is_place.ensures.graph
    c.bound.ensures.positive) in
    none_is_no_some c.in-None.is (c.new.ensures.made.1 (rw c.id.ensures is_view))

pub returns : goal.returns
returns g c =
    let place = c.args.place.now in
    let graph = place.config.graph in
    tree_view_of-parts graph (node_bound graph) (tree_of place.config) place.id _ _ _ _
    (rw c.id.ensures at c.in-Some.ensures.value) c.bound.ensures.bound (sym c.tree.ensures) c.requires
