use Rattle.std.proofs.Common.{ap, sym, subst, ◌∙◌}
use Rattle.topology.specs.Graph.{Graph}
use Rattle.history_page.specs.Failing.{noted}
use Rattle.history_page.specs.Known.{IsKnown}
use Rattle.history_page.proofs.Known.{all_known}
use Rattle.history_page.proofs.changes.note_all.Goals as goal

pub returns : goal.returns
returns g c =
    let app = g.P.Application.app in
    let config = c.args.config.now in
    subst (IsKnown app config)
    (sym (c.in_ok-nodes.ensures
    ∙ ap (noted app config) (c.ids.ensures ∙ ap (λ (h : Graph). h.ids) c.topology.ensures)))
    (all_known app config c.lemma_is_graph.ensures.graph)
