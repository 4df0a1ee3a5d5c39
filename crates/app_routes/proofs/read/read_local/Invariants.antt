use Rattle.std.proofs.Common.{◌≡◌, ◌++◌, length}
use Rattle.app_interface.proofs.ListingLaws.{with_commas}
use Rattle.app_routes.specs.Entries.{AreRoutes}
use Rattle.app_routes.specs.LocalText.{entry_text}
use Rattle.app_routes.proofs.read.read_local.Given as goal

-- the text is the entries that have been read, each with its comma, and the rest
abbrev pub invariant-loop-piece : goal.invariant-loop-piece
invariant-loop-piece l = AreRoutes l.entries.items × (l.fn.text ≡ with_commas entry_text l.entries.items ++ l.rest)

abbrev pub decreases-loop-piece : goal.decreases-loop-piece
decreases-loop-piece l = length l.rest
