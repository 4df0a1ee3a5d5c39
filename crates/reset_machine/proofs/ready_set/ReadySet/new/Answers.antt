use Rattle.std.proofs.Common.{◌≡◌, length, refl, sym, ap, ◌∙◌, arith}
use Rattle.std.specs.List.{range_with_len}
use Rattle.std.proofs.lemmas.List.FromFn.{length-range_with_len}
use Rattle.reset_machine.proofs.Standings.{next_node, none_known}
use Rattle.reset_machine.proofs.ready_set.ReadySet.new.Goals.{In_ok-marks}
use Rattle.reset_machine.proofs.ready_set.ReadySet.new.Goals as goal

pub loop-node-preserved : goal.loop-node-preserved
loop-node-preserved c =
    next_node c.loop-node.node c.loop-node.nodes.keys _ c.loop-node.invariant c.in_ok-insert.ensures.keys

all_nodes : (c : In_ok-marks) → c.loop-node.nodes.keys ≡ range_with_len 0 c.args.count
all_nodes c =
    c.loop-node.invariant ∙ ap (range_with_len 0) (omega (arith, c.loop-node-test.false, c.loop-node.auto.node-end))

pub invariant_of-result : goal.invariant_of-result
invariant_of-result c =
    none_known c.args.count c.loop-node.nodes.keys c.in_ok-marks.marks.items (all_nodes c)
    (omega (arith, c.in_ok-marks.marks.ok, c.in_ok-marks.ensures.len))

pub returns-clause-count : goal.returns-clause-count
returns-clause-count c = ap length (all_nodes c) ∙ length-range_with_len 0 c.args.count

pub returns-clause-doubts : goal.returns-clause-doubts
returns-clause-doubts c = (refl, sym (ap length (all_nodes c) ∙ length-range_with_len 0 c.args.count))
