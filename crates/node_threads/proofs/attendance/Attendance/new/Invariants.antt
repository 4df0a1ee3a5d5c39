use Rattle.std.proofs.Common.{◌≡◌}
use Rattle.node_threads.specs.Waiting.{count_waiting}
use Rattle.node_threads.proofs.attendance.Attendance.new.Given as goal

abbrev pub invariant-loop : goal.invariant-loop
invariant-loop l = count_waiting l.standings.items ≡ 0
