use Rattle.std.proofs.Common.{◌∙◌, sym}
use Rattle.tree_layer.proofs.Asked.{below_greater_root, below_shorter_way}
use Rattle.tree_layer.proofs.table.fire_row.Goals as goal

pub adopted-requires : goal.adopted-requires
adopted-requires c =
    below_greater_root _ c.args.view.now.own.root c.args.asked.now c.requires (sym c.some_greater_root.ensures ∙ (cc))

pub adopted-requires-in-8 : goal.adopted-requires-in-8
adopted-requires-in-8 c =
    below_shorter_way _ c.args.view.now.own.root c.args.view.now.own.dist c.args.asked.now c.requires
    (sym c.some_shorter_way.ensures ∙ (cc))
