use Rattle.std.proofs.Common.{refl, ◌∙◌, ◌≡◌, []}
use Rattle.action_tables.proofs.EnabledSets.{with_rows, with_rows-enabled}
use Rattle.tree_layer.specs.TreeTable.{tree_table}
use Rattle.tree_layer.proofs.table.tree_enabled.Goals as goal

pub returns : goal.returns
returns c =
    let rows = tree_table c.args.view.now c.args.view.now.near in
    let chain : c.enabled_cases.result ≡ with_rows [] rows = cc in
    chain ∙ with_rows-enabled rows refl
