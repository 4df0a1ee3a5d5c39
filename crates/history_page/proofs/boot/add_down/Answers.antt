use Rattle.std.proofs.Common.{Bool, if◌then◌else◌, [], None, ◌++◌, ap, sym, ◌∙◌}
use Rattle.std.specs.Prelude.{codes}
use Rattle.std.proofs.lemmas.Result.{on_ok_weaker}
use Rattle.link_predicates.proofs.NodeFaults.{no_node}
use Rattle.history_page.proofs.Down.{down_there}
use Rattle.history_page.proofs.boot.add_down.Goals as goal

pub returns-in-None : goal.returns-in-None
returns-in-None g =
    let graph = g.args.topology.now in
    let id = g.args.id in
    let down = down_there graph id (no_node graph g.lemma_is_graph.ensures.graph id None g.in-None.ensures) in
    on_ok_weaker g.add_parts.result
    (λ added. added ∙ ap (λ (b : Bool). g.args.line.now.items ++ (if b then [] else codes ";down")) (sym down))
    g.add_parts.ensures
