use Rattle.std.proofs.Common.{slice_index, ap, sym}
use Rattle.std.proofs.lemmas.Bool.{both_ways}
use Rattle.topology.specs.Graph.{IsNode}
use Rattle.topology.proofs.Membership.{Contains-has, has-Contains}
use Rattle.tree_layer.specs.TreeRows.{claimed}
use Rattle.tree_layer.proofs.boot.booted_at.Goals as goal

pub returns-then-is_up : goal.returns-then-is_up
returns-then-is_up c =
    let g = c.args.topology.now in
    let node : IsNode g (slice_index g.ids c.args.ix) = Contains-has g.nodes _ (sym c.if-is_up.ensures) in
    record { up = λ _. c.regs_at.ensures; down = λ none. absurd (none node) }

pub returns : goal.returns
returns c =
    let g = c.args.topology.now in
    record {
      up = λ node. absurd (both_ways _ (sym c.if-is_up.ensures) (has-Contains g.nodes _ node));
      down = λ _. ap (λ xs. claimed (slice_index xs c.args.ix)) c.ids.ensures;
    }
