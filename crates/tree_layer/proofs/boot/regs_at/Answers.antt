use Rattle.std.proofs.Common.{◌≡◌, slice_index, sym, ◌∙◌}
use Rattle.std.proofs.lemmas.Option.{get_or_from_slice_get}
use Rattle.topology.specs.Components.{leader}
use Rattle.topology.specs.Graph.{IsNode}
use Rattle.topology.proofs.Membership.{Contains-has}
use Rattle.tree_layer.proofs.Booting.{booted_below, booted_top}
use Rattle.tree_layer.proofs.boot.regs_at.Goals.{in-Some, in-None}
use Rattle.tree_layer.proofs.boot.regs_at.Goals as goal

pub returns : goal.returns
returns c =
    let g = c.args.topology.now in
    let graph = c.lemma_is_graph.ensures.graph in
    let near = c.neighbours.result.now in
    let node : IsNode g (slice_index g.ids c.args.ix) = Contains-has g.nodes _ c.requires.up in
    let root : c.get-root.result ≡ leader g (slice_index g.ids c.args.ix) =
    c.get-root.ensures.number ∙ c.greatest_of.ensures in
    elim c.match-nearer_among.branch [
      | in-Some w ↦
          rw (
            root,
            w.father-is ∙ w.get-father.ensures.number
                ∙ sym (get_or_from_slice_get g.ids _ _ 0 (sym w.id_at.ensures ∙ w.unwrap.ensures)),
          )
          (booted_below g graph c.args.distances.now c.requires.distances c.args.ix c.requires.place node near
          c.neighbours.ensures.ids c.neighbours.ensures.within c.neighbours.ensures.ascending _ w.in-Some.ensures)
      | in-None w ↦
          rw (w.father-is, root)
          (booted_top g graph c.args.distances.now c.requires.distances c.args.ix c.requires.place node near
          c.neighbours.ensures.ids c.neighbours.ensures.within c.neighbours.ensures.ascending w.in-None.ensures)
    ]
