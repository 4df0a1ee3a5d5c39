use Rattle.std.proofs.Common.{arith}
use Rattle.action_tables.proofs.Prefixes.{OnErr-always}
use Rattle.action_tables.proofs.Pieces.{AppendsPrefix-piece}
use Rattle.space_time_diagram.specs.Bands.{band_text}
use Rattle.space_time_diagram.proofs.band.put_bands.Goals as goal

pub returns-in_err-put_band-clause-err : goal.returns-in_err-put_band-clause-err
returns-in_err-put_band-clause-err g c =
    OnErr-always _ _
    (AppendsPrefix-piece _ _ _ band_text c.args.bands.now c.loop-band.band-index _ (omega arith)
    c.loop-band.invariant c.in_err-put_band.ensures.err)
