use Rattle.std.proofs.Common.{◌≡◌, get_or, length, sym, ap, ◌∙◌, arith}
use Rattle.tree_layer.specs.TreeRows.{claimed}
use Rattle.reset_model.specs.Topologies.{comes_up}
use Rattle.reset_machine.proofs.Renewing.{all_renewed, none_renewed, one_kept, one_renewed}
use Rattle.reset_machine.proofs.renewal.renew_trees.Goals.{then-comes_up, else-comes_up}
use Rattle.reset_machine.proofs.renewal.renew_trees.Goals as goal

pub loop-index-init : goal.loop-index-init
loop-index-init c =
    none_renewed (comes_up c.args.old.now c.args.new.now) claimed c.args.new.now.ids c.args.trees.now

pub loop-index-preserved : goal.loop-index-preserved
loop-index-preserved c =
    let comes = comes_up c.args.old.now c.args.new.now in
    let ids = c.args.new.now.ids in
    let at = c.loop-index.index in
    elim c.if-comes_up.branch [
      | then-comes_up w ↦ one_renewed comes claimed ids c.args.trees.now at c.loop-index.trees c.loop-index.invariant
          (omega (arith, c.loop-index-test.true, ap (λ xs. length xs) c.ids-id-items.ensures)) c.requires.count
          (sym c.comes_up.ensures ∙ w.if-comes_up.true) _ c.if-comes_up.trees
          (ap (λ xs. claimed (get_or xs at 0)) c.ids-id-items.ensures) w.trees-is
      | else-comes_up w ↦ rw w.trees-is
          (one_kept comes claimed ids c.args.trees.now at c.loop-index.trees c.loop-index.invariant
          (sym c.comes_up.ensures ∙ w.if-comes_up.false))
    ]

pub returns : goal.returns
returns c =
    let count = ap (λ xs. length xs) c.ids-id-items.ensures in
    let ended : length c.args.new.now.ids ≡ c.loop-index.index =
    omega (arith, count, c.loop-index-test.false, c.loop-index.auto.index-end) in
    all_renewed (comes_up c.args.old.now c.args.new.now) claimed c.args.new.now.ids c.args.trees.now c.loop-index.index
    c.loop-index.trees c.loop-index.invariant ended c.requires.count
