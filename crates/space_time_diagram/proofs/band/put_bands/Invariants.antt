-- What stands before the index was written.
use Rattle.std.proofs.Common.{take}
use Rattle.std.specs.List.{flat_map}
use Rattle.std.specs.Io.KnownBytes.{Appends}
use Rattle.space_time_diagram.specs.Bands.{band_text}
use Rattle.space_time_diagram.proofs.band.put_bands.Given as goal

abbrev pub invariant-loop-band : goal.invariant-loop-band
invariant-loop-band g l =
    Appends (g.W.Write.contents l.initial.out) (g.W.Write.contents l.out)
    (flat_map (band_text) (take l.band-index l.bands))
