-- The links of the nodes before the index were added.
use Rattle.std.proofs.Common.{◌≡◌, ◌++◌, take}
use Rattle.std.specs.List.{flat_map}
use Rattle.history_page.specs.Opening.{links_from}
use Rattle.history_page.proofs.boot.add_links.Given as goal

abbrev pub invariant-loop-id : goal.invariant-loop-id
invariant-loop-id l =
    l.line.items ≡ l.initial.line.items ++ flat_map (links_from l.topology) (take l.id-index l.ids)
