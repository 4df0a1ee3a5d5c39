-- What the descriptions of the shapes have.
use Rattle.std.proofs.Common.{◌≡◌, ◌≢◌, ℕ, ◌+◌, ◌-◌, ◌*◌, ◌<◌, ◌≤◌, List, length, All, AllPairs}
use Rattle.std.proofs.Common.{subst, arith}
use Rattle.std.proofs.lemmas.List.Elements.{All-weaker}
use Rattle.network_shapes.specs.Shapes.{lesser_nodes, node_numbers, shape_links}
use Rattle.network_shapes.specs.declared.shape.Shape.{Shape}
use Rattle.network_shapes.proofs.Lesser.{lesser_nodes-are}
use Rattle.network_shapes.proofs.Linked.{IsUpward, links_of-apart, links_of-few, links_of-upward}
use Rattle.network_shapes.proofs.Ranges.{number_at}
use Rattle.topology.specs.TopologyTable.{IsSmall, IsSmallLink}

pub node_numbers-small : (count : ℕ) → count ≤ 1024 → All IsSmall (node_numbers count)
node_numbers-small count few k d within =
    let at = number_at count k d within in
    omega (arith, at.0, at.1)

module _ (shape : Shape) (count seed : ℕ) (some : 0 < count) where
  abbrev lesser : ℕ → List ℕ
  lesser = lesser_nodes shape count seed

  pub upward : All (IsUpward count) (shape_links shape count seed)
  upward =
      let whole : count - 1 + 1 ≡ count = omega arith in
      subst (λ n. All (IsUpward n) (shape_links shape count seed)) whole
      (links_of-upward lesser count (lesser_nodes-are shape count seed) (count - 1) (omega arith))

  pub apart : AllPairs (λ l m. l ≢ m) (shape_links shape count seed)
  apart = links_of-apart lesser count (lesser_nodes-are shape count seed) (count - 1) (omega arith)

  pub few_links : length (shape_links shape count seed) ≤ 2 * count
  few_links =
      omega (arith, links_of-few lesser count (lesser_nodes-are shape count seed) (count - 1) (omega arith))

  pub shape_links-small : count ≤ 1024 → All IsSmallLink (shape_links shape count seed)
  shape_links-small few =
      All-weaker (IsUpward count) IsSmallLink
      (λ l is. (omega (arith, is.upward, is.within), omega (arith, is.within))) (shape_links shape count seed) upward
