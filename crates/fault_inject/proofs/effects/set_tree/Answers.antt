use Rattle.std.proofs.Common.{sym, ◌∙◌}
use Rattle.fault_inject.proofs.InjectedFaults.{tree_bad, tree_lost, tree_put, tree_strange}
use Rattle.fault_inject.proofs.effects.set_tree.Goals as goal

pub returns-then-not-is_node-clause-outcome : goal.returns-then-not-is_node-clause-outcome
returns-then-not-is_node-clause-outcome g c =
    tree_strange g.P.Application.app g.P.Application.from_text c.args.config.now c.args.at c.args.regs
    (sym c.is_node.ensures ∙ c.if-not-is_node.true)

pub returns-then-not-are_ids-clause-outcome : goal.returns-then-not-are_ids-clause-outcome
returns-then-not-are_ids-clause-outcome g c =
    tree_bad g.P.Application.app g.P.Application.from_text c.args.config.now c.args.at c.args.regs
    (sym c.is_node.ensures ∙ c.if-not-is_node.false)
    (sym c.are_ids.ensures ∙ c.if-not-are_ids.true)

pub returns-in-Ok-clause-outcome : goal.returns-in-Ok-clause-outcome
returns-in-Ok-clause-outcome g c =
    tree_put g.P.Application.app g.P.Application.from_text c.args.config.now c.args.at c.args.regs _
    (sym c.is_node.ensures ∙ c.if-not-is_node.false)
    (sym c.are_ids.ensures ∙ c.if-not-are_ids.false) c.in-Ok.ensures.ok.1

pub returns-in-Err-clause-outcome : goal.returns-in-Err-clause-outcome
returns-in-Err-clause-outcome g c =
    tree_lost g.P.Application.app g.P.Application.from_text c.args.config.now c.args.at c.args.regs c.in-Err.ensures.err.1
