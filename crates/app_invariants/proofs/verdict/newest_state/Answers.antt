use Rattle.app_invariants.proofs.Newest.{newest_start}
use Rattle.app_invariants.proofs.verdict.newest_state.Goals as goal

pub returns-in-None : goal.returns-in-None
returns-in-None g c =
    let start = rw c.topology-topology.ensures at c.on_start.ensures in
    let none = rw (c.ids.ensures, c.topology-topology.ensures) at c.in-None.ensures.none in
    newest_start g.P.Application.app c.args.config.now c.args.index c.on_start.result c.requires start none
