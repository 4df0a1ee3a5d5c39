-- Nodes that wait.
use Rattle.std.specs.Prelude.{ℕ, List, sum_by}
use Rattle.node_threads.specs.declared.attendance.Standing.{Standing}
use Rattle.node_threads.specs.declared.attendance.Standing.TheVariants.{Current, Stale, Waiting}

-- 1 of a node that waits, and else 0
abbrev pub one_if_waiting : Standing → ℕ
one_if_waiting Current = 0
one_if_waiting Stale = 0
one_if_waiting Waiting = 1

-- how many of the nodes with these standings wait
abbrev pub count_waiting : List Standing → ℕ
count_waiting standings = sum_by one_if_waiting standings
