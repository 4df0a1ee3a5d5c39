use Rattle.std.proofs.Common.{◌+◌, ap, ◌∙◌, arith, length-append}
use Rattle.tree_layer.proofs.Booting.{each_more}
use Rattle.tree_layer.proofs.boot.boot_tree.Goals as goal

pub loop-ix-preserved : goal.loop-ix-preserved
loop-ix-preserved c =
    let g = c.args.topology.now in
    let so_far = c.loop-ix.invariant in
    rw c.in_ok-push.ensures.items (record {
      count = length-append c.loop-ix.trees.items _ ∙ ap (λ n. n + 1) so_far.count;
      each = each_more g c.loop-ix.trees.items c.booted_at.result c.loop-ix.ix so_far.count so_far.each c.booted_at.ensures;
    })

pub returns : goal.returns
returns c =
    let g = c.args.topology.now in
    let all = c.loop-ix.invariant in
    record {
      count = omega (arith, all.count, c.loop-ix-test.false, c.len-ix-end.ensures);
      each = λ ix regs low node. (all.each ix regs (omega (arith, low, all.count))).up node;
      down = λ ix regs low none. (all.each ix regs (omega (arith, low, all.count))).down none;
    }
