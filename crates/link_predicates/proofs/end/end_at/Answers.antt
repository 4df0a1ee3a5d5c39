use Rattle.std.proofs.Common.{sym, ap, ◌∙◌, slice_index, slice_index_or}
use Rattle.topology.specs.Graph.{Graph}
use Rattle.wave_layer.specs.declared.regs.Phase.TheVariants.{Normal}
use Rattle.reset_model.proofs.Judging.{read_at-place}
use Rattle.reset_machine.proofs.NearSeen.{same_neighbour}
use Rattle.reset_model.proofs.Positions.{value_at-place}
use Rattle.link_predicates.proofs.end.end_at.Goals as goal

pub returns : goal.returns
returns g c =
    let config = c.args.config.now in
    let ids = config.graph.ids in
    let index = c.args.index in
    let up = c.lemma_is_graph.ensures.graph.ascending in
    let shaped = c.lemma_is_graph.ensures.shaped in
    let id = ap (λ l. slice_index l index) (c.ids.ensures ∙ ap (λ (graph : Graph). graph.ids) c.topology.ensures) in
    let t = value_at-place (record { root = 0; father = 0; dist = 0 }) ids config.trees index up shaped.trees c.requires
    ∙ ap (λ trees. slice_index_or trees index (record { root = 0; father = 0; dist = 0 })) (sym c.trees.ensures.value)
    in
    let w = value_at-place (record { phase = Normal; session = 0 }) ids config.waves index up shaped.waves c.requires
    ∙ ap (λ waves. slice_index_or waves index (record { phase = Normal; session = 0 })) (sym c.waves.ensures.value) in
    let l = read_at-place (g.P.Application.app.start config.graph (slice_index ids index)) ids config.locals index _ up
    shaped.locals c.requires
    (c.index-locals-index.is
    ∙ ap (λ locals. slice_index_or locals index c.index-locals-index.result) c.locals.ensures.value) in
    same_neighbour _ _ _ _ _ _ _ _ id (sym t) (sym w) (sym l)
