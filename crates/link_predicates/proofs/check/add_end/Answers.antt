use Rattle.std.proofs.Common.{◌++◌, append-nil, sym, ap, ap₂, ◌∙◌}
use Rattle.std.proofs.lemmas.Result.{on_ok_weaker}
use Rattle.topology.specs.Graph.{node_bound}
use Rattle.link_predicates.specs.Faults.{link_faults}
use Rattle.link_predicates.proofs.check.add_end.Goals as goal

pub returns-then-is_quiet : goal.returns-then-is_quiet
returns-then-is_quiet g c =
    let app = g.P.Application.app in
    let config = c.args.config.now in
    let limits = c.limits_of-limits.result in
    let found = c.args.found.now.items in
    let own = c.end_at-own.result in
    let other = c.end_at-other.result in
    sym (append-nil found)
    ∙ ap (λ l. found ++ l)
    (sym (c.is_quiet.ensures c.if-is_quiet.true)
    ∙ ap₂ (λ K m. link_faults app K m own other) c.limits_of-limits.ensures.bound c.limits_of-limits.ensures.modulus
    ∙ ap₂ (link_faults app (node_bound config.graph) config.modulus) c.end_at-own.ensures c.end_at-other.ensures)

pub returns : goal.returns
returns g c =
    let app = g.P.Application.app in
    let config = c.args.config.now in
    let limits = c.limits_of-limits.result in
    let found = c.args.found.now.items in
    let own = c.end_at-own.result in
    let other = c.end_at-other.result in
    on_ok_weaker c.add_link.result
    (λ added. added
    ∙ ap (λ l. found ++ l)
    (ap₂ (λ K m. link_faults app K m own other) c.limits_of-limits.ensures.bound c.limits_of-limits.ensures.modulus
    ∙ ap₂ (link_faults app (node_bound config.graph) config.modulus) c.end_at-own.ensures c.end_at-other.ensures))
    c.add_link.ensures
