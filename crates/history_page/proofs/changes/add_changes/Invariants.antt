-- The nodes before the index were told, and what fails at them is kept; with the others it is all that is to be kept.
use Rattle.std.proofs.Common.{◌≡◌, ◌++◌, drop, length, take}
use Rattle.std.specs.List.{flat_map}
use Rattle.history_page.specs.Failing.{failing_change}
use Rattle.history_page.specs.Known.{kept}
use Rattle.history_page.proofs.changes.add_changes.Given as goal

abbrev pub invariant-loop-node : goal.invariant-loop-node
invariant-loop-node g l =
    (l.line.items
    ≡ l.initial.line.items ++ flat_map (failing_change g.P.Application.app l.config) (take l.node-index l.nodes))
    × (length l.known ≡ length l.config.graph.ids)
    × (kept g.P.Application.app l.config l.nodes l.initial.known
    ≡ kept g.P.Application.app l.config (drop l.node-index l.nodes) l.known)
