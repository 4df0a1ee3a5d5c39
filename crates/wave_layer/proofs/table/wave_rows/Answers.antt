use Rattle.std.proofs.Common.{refl}
use Rattle.wave_layer.proofs.table.wave_rows.Goals as goal

pub returns : goal.returns
returns c v asked = refl
