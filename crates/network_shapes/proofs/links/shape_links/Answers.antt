use Rattle.std.proofs.Common.{◌≡◌, ℕ, ◌-◌, ◌++◌, List, ap, ap₂, sym, ◌∙◌, arith}
use Rattle.std.specs.List.{flat_map, range_with_len}
use Rattle.network_shapes.specs.Shapes.{lesser_nodes, links_to}
use Rattle.network_shapes.proofs.Ranges.{flat_map_next}
use Rattle.network_shapes.proofs.links.shape_links.Goals as goal

pub loop-node-preserved : goal.loop-node-preserved
loop-node-preserved c =
    let linked : ℕ → List (ℕ × ℕ) = λ node. links_to node (lesser_nodes c.args.shape c.args.count c.args.seed node) in
    let next = flat_map_next linked 2 c.loop-node.node (omega arith) in
    c.in_ok-push_links.ensures
    ∙ ap₂ (λ xs ys. xs ++ ys) c.loop-node.invariant (ap (links_to c.loop-node.node) c.lesser_nodes-lesser.ensures)
    ∙ sym next

pub returns : goal.returns
returns c =
    let linked : ℕ → List (ℕ × ℕ) = λ node. links_to node (lesser_nodes c.args.shape c.args.count c.args.seed node) in
    let all : c.loop-node.node - 2 ≡ c.args.count - 1 = omega arith in
    c.loop-node.invariant ∙ ap (λ n. flat_map linked (range_with_len 2 n)) all
