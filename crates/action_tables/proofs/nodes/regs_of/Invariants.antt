use Rattle.std.proofs.Common.{◌≡◌, drop}
use Rattle.action_tables.specs.Nodes.{regs_of}
use Rattle.action_tables.proofs.nodes.regs_of.Given as goal

-- the node is looked for among those that are left
abbrev pub invariant-loop-other : goal.invariant-loop-other
invariant-loop-other g l = regs_of l.id (drop l.other-index l.nodes) ≡ regs_of l.id l.nodes
