-- An identifier has an index among the nodes exactly where it is one of them.
use Rattle.std.proofs.Common.{◌≡◌, ℕ, ◌==◌, Bool, true, false, cond, None, position, refl, sym, ap, ◌∙◌}
use Rattle.std.specs.Option.{is_some}
use Rattle.topology.specs.Graph.{Graph, IsGraph, is_node, node_at}
use Rattle.topology.proofs.Membership.{Contains-has}
use Rattle.reset_model.proofs.NodePositions.{a_node}
use Rattle.reset_model.proofs.Positions.{list_any-position}

pub node_tested : (g : Graph) → IsGraph g → (id : ℕ) → is_some (node_at g id) ≡ is_node g id
node_tested g graph id = at (is_node g id) refl
  where
    at : (b : Bool) → is_node g id ≡ b → is_some (cond (is_node g id) (position (λ i. i == id) g.ids) None) ≡ is_node g id
    at true up =
        ap (λ b. is_some (cond b (position (λ i. i == id) g.ids) None)) up
        ∙ sym (list_any-position g.ids id)
        ∙ a_node g.ids id (graph.within id (Contains-has g.nodes id up))
        ∙ sym up
    at false down = ap (λ b. is_some (cond b (position (λ i. i == id) g.ids) None)) down ∙ sym down
