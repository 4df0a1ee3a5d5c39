-- The links to the neighbours before the index were added.
use Rattle.std.proofs.Common.{◌≡◌, ◌++◌, take}
use Rattle.std.specs.List.{flat_map}
use Rattle.history_page.specs.Opening.{link_from}
use Rattle.history_page.proofs.boot.add_links_to.Given as goal

abbrev pub invariant-loop-other : goal.invariant-loop-other
invariant-loop-other l =
    l.line.items ≡ l.initial.line.items ++ flat_map (link_from l.id) (take l.other-index l.near)
