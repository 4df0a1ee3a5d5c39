use Rattle.node_threads.proofs.Crossing.{shared_sync, moved_send}
use Rattle.node_threads.proofs.threads.lemma_is_sync.Goals as goal

pub returns : goal.returns
returns g c = shared_sync g.row.L g.row.P g.row.P-Local g.L.Sharing g.L.Round g.P.Application g.L.Ledger (moved_send g.row.P-Local
    c.type_bounds.send-P-Local)
