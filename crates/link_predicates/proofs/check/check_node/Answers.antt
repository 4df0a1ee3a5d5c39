use Rattle.std.proofs.Common.{◌++◌, slice_index, refl, ap, ◌∙◌}
use Rattle.link_predicates.specs.Faults.{node_faults}
use Rattle.link_predicates.proofs.check.check_node.Goals as goal

pub returns-in_default-clause-err : goal.returns-in_default-clause-err
returns-in_default-clause-err g c = λ other. (refl, c.in_default.ensures.none)

pub returns-clause-ok : goal.returns-clause-ok
returns-clause-ok g c =
    let config = c.args.config.now in
    let faults_at = node_faults g.P.Application.app config in
    let found = c.in-Some.ensures.found in
    let id = slice_index config.graph.ids c.in-Some.index in (
      found.0,
      c.in_ok-add_node.ensures ∙ ap (λ l. l ++ faults_at id) c.new-found.ensures.items ∙ ap faults_at found.2,
    )
