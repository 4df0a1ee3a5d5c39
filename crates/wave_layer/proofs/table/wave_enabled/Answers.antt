use Rattle.std.proofs.Common.{refl, ◌∙◌, ◌≡◌, []}
use Rattle.action_tables.proofs.EnabledSets.{with_rows, with_rows-enabled}
use Rattle.wave_layer.specs.WaveTable.{wave_table}
use Rattle.wave_layer.proofs.table.wave_enabled.Goals as goal

pub returns : goal.returns
returns c =
    let rows = wave_table c.args.view.now c.args.view.now.children in
    let chain : c.enabled_cases.result ≡ with_rows [] rows = cc in
    chain ∙ with_rows-enabled rows refl
