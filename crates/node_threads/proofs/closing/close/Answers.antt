use Rattle.node_threads.proofs.Collecting.{close_fault}
use Rattle.node_threads.proofs.closing.close.Goals as goal

pub returns-in-Err-clause-err : goal.returns-in-Err-clause-err
returns-in-Err-clause-err g c =
    let u = c.in-Err.unlocked in
    close_fault g.P.Application.app g.P.Application.from_text g.L.Sharing.book u.locked.book g.L.Round.nodes
    c.args.seats.items c.in-Err.fault u.locked.nodes c.in-Err.ensures.err
