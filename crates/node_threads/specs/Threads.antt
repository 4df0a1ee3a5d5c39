-- What threads give back.
use Rattle.std.specs.Prelude.{ℕ, List, map}
use Rattle.std.specs.declared.thread.PromisedHandle.{PromisedHandle}
use Rattle.node_threads.specs.declared.threads.SeatOf.{SeatOf}

-- the nodes of the seats that these threads give back, in turn
abbrev pub promised : {T : Type 0} → List (PromisedHandle T SeatOf) → List ℕ
promised threads = map (λ t. t.promise.node) threads
