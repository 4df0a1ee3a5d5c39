-- With those that are left, it has asked for no more resets than it was to ask for.
use Rattle.std.proofs.Common.{◌≡◌, ◌+◌, ◌≤◌}
use Rattle.node_threads.specs.Requests.{request_count}
use Rattle.node_threads.proofs.tasks.turns_and_requests.Given as goal

abbrev pub invariant-loop : goal.invariant-loop
invariant-loop g l = record {
  node : l.seat.node ≡ l.fn.seat.node;
  asked : request_count l.seat.receipts + l.left ≤ request_count l.fn.seat.receipts + l.requests;
}
