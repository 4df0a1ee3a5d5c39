use Rattle.std.proofs.Common.{◌≡◌, ◌<◌, ◌==◌, ℕ, length, slice_index, sym, subst, arith, eqb-true}
use Rattle.std.proofs.lemmas.Bool.{and_parts}
use Rattle.topology.specs.Components.{leader}
use Rattle.topology.specs.Graph.{is_node}
use Rattle.tree_layer.specs.BootTree.{KeepsFound}
use Rattle.tree_layer.proofs.Booting.{AreFound, found_all, found_more, found_none, found_same}
use Rattle.tree_layer.proofs.boot.fill_distances.Goals as goal
use Rattle.tree_layer.proofs.boot.fill_distances.Goals.{then-is_leader+in_ok-found, else-is_leader}

pub loop-index-init : goal.loop-index-init
loop-index-init c = found_none c.args.topology.now c.args.distances.now c.lemma_is_graph.ensures.graph c.requires

pub loop-index-preserved : goal.loop-index-preserved
loop-index-preserved c =
    let g = c.args.topology.now in
    let graph = c.lemma_is_graph.ensures.graph in
    let index = c.loop-index.index in
    let id : ℕ = slice_index g.ids index in
    let short : index < length g.ids = omega (arith, c.loop-index-test.true) in
    elim c.if-is_leader.branch [
      | then-is_leader+in_ok-found w ↦
          let leads : leader g id ≡ id =
          eqb-true _ _ (and_parts (is_node g id) (leader g id == id) (sym w.if-is_leader.ensures)).1 in
          rw w.distances-is
          (found_more g graph index short c.loop-index.distances c.loop-index.invariant leads
          w.in_ok-found.found.items w.keep_found.new.distances
          w.in_ok-found.ensures.count w.in_ok-found.ensures.distances
          (subst (λ xs. KeepsFound xs c.loop-index.distances w.keep_found.new.distances) w.deref.ensures.value
          w.keep_found.ensures))
      | else-is_leader w ↦
          rw w.distances-is
          (found_same g graph index short c.loop-index.distances c.loop-index.invariant (sym w.if-is_leader.ensures))
    ]

pub returns : goal.returns
returns c =
    let g = c.args.topology.now in
    let done : c.loop-index.index ≡ length g.ids = omega (arith, c.loop-index-test.false) in
    found_all g c.loop-index.distances c.lemma_is_graph.ensures.graph
    (subst (λ n. AreFound g n c.loop-index.distances) done c.loop-index.invariant)
