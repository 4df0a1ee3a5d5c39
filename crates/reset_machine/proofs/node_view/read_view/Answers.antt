use Rattle.std.proofs.Common.{◌==◌, ℕ, List, subst, sym, ap, ◌∙◌}
use Rattle.std.proofs.lemmas.List.Quantifiers.{position-Some}
use Rattle.std.proofs.lemmas.Simd.{map-map}
use Rattle.topology.specs.Graph.{neighbours_of}
use Rattle.tree_layer.specs.TreeTable.{IsView}
use Rattle.tree_layer.specs.declared.regs.TreeRegs.{TreeRegs}
use Rattle.reset_model.specs.Configuration.{tree_of}
use Rattle.reset_model.specs.View.{Neighbour, near_of, near_trees}
use Rattle.reset_machine.proofs.NearSeen.{same_view}
use Rattle.reset_machine.proofs.NearTrees.{near_is_view}
use Rattle.reset_model.proofs.Positions.{id_at-position}
use Rattle.reset_machine.proofs.StepClauses.{start_is}
use Rattle.reset_machine.proofs.node_view.read_view.Goals as goal

pub new-requires-after_bounds : goal.new-requires-after_bounds
new-requires-after_bounds g c = λ κs within.
    let place = c.args.place.now in
    let config = place.config in
    let P : List (ℕ × TreeRegs) → Type 0 = λ near. IsView place.id c.bound.result near in
    let near = ap near_trees c.in_ok-near.ensures
    ∙ map-map (λ (n : Neighbour g.row.P-Local.Denot). (n.id, n.tree)) (near_of g.P.Application.app config)
    (neighbours_of config.graph place.id) in
    rw c.id.ensures
    (subst P (sym near)
    (near_is_view config.graph c.bound.result (tree_of config) place.id c.lemma_is_place.ensures.graph
    c.bound.ensures.positive))

pub returns : goal.returns
returns g c =
    let place = c.args.place.now in
    let graph = place.config.graph in
    let start = g.P.Application.app.start graph in
    let short = (position-Some (λ i. i == place.id) graph.ids place.index 0 c.lemma_is_place.ensures.place).0 in
    let started = rw (c.topology.ensures, c.index.ensures.index) at c.in_ok-start.ensures in
    c.new.ensures
    ∙ same_view _ _ _ _ _ _ _ _ _ _ _ _ _ _ _ _ c.id.ensures c.bound.ensures.bound c.modulus.ensures c.tree.ensures
    c.wave.ensures
    (c.in_ok-local.ensures ∙ c.local.ensures)
    (start_is start graph.ids place.index _ short started
    ∙ ap start (id_at-position graph.ids place.index place.id c.lemma_is_place.ensures.place))
    c.in_ok-near.ensures
