use Rattle.std.proofs.Common.{arith}
use Rattle.node_threads.proofs.Waiting.{fits_more}
use Rattle.node_threads.proofs.attendance.Attendance.set.Goals as goal

pub overflow_add-waiting : goal.overflow_add-waiting
overflow_add-waiting c =
    let a = c.args.self.now in
    fits_more a.standings.items a.waiting c.one_if_waiting.result c.one_if_waiting-2.result c.args.standing a.counted
    c.one_if_waiting-2.ensures (omega (arith, a.standings.ok.0, a.standings.ok.1, a.standings.small))
