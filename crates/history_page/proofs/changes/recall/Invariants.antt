-- The nodes before the index were noted.
use Rattle.std.proofs.Common.{◌≡◌, take}
use Rattle.history_page.specs.Failing.{noted}
use Rattle.history_page.proofs.changes.recall.Given as goal

abbrev pub invariant-loop-id : goal.invariant-loop-id
invariant-loop-id g l = l.nodes.items ≡ noted g.P.Application.app l.config (take l.id-index l.ids)
