use Rattle.std.proofs.Common.{◌≡◌, take}
use Rattle.app_routes.specs.Entries.{AreRoutes, pulled}
use Rattle.app_routes.proofs.pull.pulled.Given as goal

-- the better ones of the entries before the index are taken
abbrev pub invariant-loop-entry : goal.invariant-loop-entry
invariant-loop-entry l =
    AreRoutes l.entries.items × (l.entries.items ≡ pulled l.bound l.neighbour l.own (take l.entry-index l.theirs))
