use Rattle.std.proofs.Common.{◌≡◌, ◌++◌, length}
use Rattle.std.specs.Fmt.{decimal}
use Rattle.app_interface.proofs.ListingLaws.{with_commas}
use Rattle.app_token.specs.Bits.{IsBits}
use Rattle.app_token.proofs.read.read_ids.Given as goal

-- the text is the identifiers that have been read, each with its comma, and the rest
abbrev pub invariant-loop-piece : goal.invariant-loop-piece
invariant-loop-piece l = IsBits l.ids.items × (l.fn.text ≡ with_commas decimal l.ids.items ++ l.rest)

abbrev pub decreases-loop-piece : goal.decreases-loop-piece
decreases-loop-piece l = length l.rest
