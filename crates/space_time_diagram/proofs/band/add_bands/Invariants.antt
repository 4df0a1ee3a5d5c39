-- The bands of the entries before the index were made, and those from it on are a run from here.
use Rattle.std.proofs.Common.{◌≡◌, ◌+◌, ◌++◌, IsSome, drop, length}
use Rattle.history.specs.Entries.{replayed}
use Rattle.space_time_diagram.specs.Bands.{bands_from}
use Rattle.space_time_diagram.specs.Lanes.{own_lane}
use Rattle.space_time_diagram.proofs.band.add_bands.Given as goal

abbrev pub invariant-loop-entry : goal.invariant-loop-entry
invariant-loop-entry g l =
    let app = g.P.Application.app in
    let from_text = g.P.Application.from_text in
    let rest = drop l.entry-index l.entries in
    let lane = own_lane l.nodes l.opening in
    let count = length l.entries in
    (l.bands.items ++ bands_from app from_text lane count l.config (l.place + 1) rest
    ≡ l.fn.bands.items ++ bands_from app from_text lane count l.fn.config 1 l.entries)
    × IsSome (replayed app from_text l.config rest) × (l.place ≡ l.entry-index)
