use Rattle.std.proofs.Common.{rules}
use Rattle.node_choices.proofs.Allowing.{row_allowed}
use Rattle.node_choices.proofs.sight.Sight.allows.Goals as goal

pub returns-in-Request : goal.returns-in-Request
returns-in-Request g c =
    row_allowed g.P.Application.app c.args.event c.self.view_is c.id.ensures c.node.ensures c.self.invariant.wave_is
    c.fires-in-Request.ensures (search rules) c.in-Request.is
