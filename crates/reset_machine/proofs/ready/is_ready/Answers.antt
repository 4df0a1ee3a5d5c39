use Rattle.std.proofs.Common.{sym, ap, ap₂, ◌&&◌, ◌∙◌, slice_index}
use Rattle.topology.proofs.Membership.{Contains-has}
use Rattle.reset_machine.specs.Enabled.{has_work_at}
use Rattle.reset_machine.proofs.StepShadows.{if_ok}
use Rattle.reset_machine.proofs.ready.is_ready.Goals as goal

pub at-requires-clause-node : goal.at-requires-clause-node
at-requires-clause-node g c κs within =
    let graph = c.args.nodes.now.graph in
    Contains-has graph.nodes (slice_index graph.ids c.args.index)
    (rw c.topology.ensures at (sym c.if-not-is_up.ensures))

pub returns : goal.returns
returns g c =
    let app = g.P.Application.app in
    let now = c.args.nodes.now in
    let id = slice_index now.graph.ids c.args.index in
    let up = rw c.topology.ensures at (sym c.if-not-is_up.ensures) in
    if_ok _ _
    (λ ready is. is ∙ ap₂ (has_work_at app) c.at.ensures.config c.at.ensures.id
    ∙ sym (ap (λ b. b && has_work_at app now id) up))
    c.has_work.result c.has_work.ensures
