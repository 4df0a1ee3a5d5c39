-- Configurations that the same items name are alike.
use Rattle.std.proofs.Common.{◌≡◌, ℕ, ◌==◌, List, sym, ◌∙◌, subst}
use Rattle.std.proofs.lemmas.Bool.{eqb-true}
use Rattle.std.proofs.lemmas.List.Folds.{Any-from_list_any}
use Rattle.app_interface.specs.Application.{App}
use Rattle.topology.specs.Graph.{Graph, IsNode, are_linked}
use Rattle.topology.proofs.Membership.{Contains-has, has-Contains}
use Rattle.topology.proofs.OneResult.{same_graph}
use Rattle.reset_model.specs.Configuration.{Configuration, local_of, tree_of, wave_of}
use Rattle.snapshots.specs.Alike.{AreAlike}
use Rattle.snapshots.specs.Items.{nodes_in}
use Rattle.snapshots.specs.Named.{AreNamed, Holds}
use Rattle.snapshots.specs.declared.item.Item.{Item}
use Rattle.snapshots.specs.declared.item.NodeState.{NodeState}

module _ {L : Type 0} (app : App L) (g : Graph) (modulus : ℕ) (items : List (Item L)) (c d : Configuration L)
    (c_named : AreNamed app g modulus items c) (d_named : AreNamed app g modulus items d) where
  up_too : (i : ℕ) → IsNode c.graph i → IsNode d.graph i
  up_too i at = Contains-has d.graph.nodes i (d_named.up i ∙ sym (c_named.up i) ∙ has-Contains c.graph.nodes i at)

  up_before : (i : ℕ) → IsNode d.graph i → IsNode c.graph i
  up_before i at = Contains-has c.graph.nodes i (c_named.up i ∙ sym (d_named.up i) ∙ has-Contains d.graph.nodes i at)

  same_links : (a b : ℕ) → are_linked c.graph a b ≡ are_linked d.graph a b
  same_links a b = c_named.links a b ∙ sym (d_named.links a b)

  same_state : (node : NodeState L) → Holds app c node → Holds app d node
      → (tree_of c node.id ≡ tree_of d node.id) × (wave_of c node.id ≡ wave_of d node.id)
      × (local_of app c node.id ≡ local_of app d node.id)
  same_state node in_c in_d = (in_c.0 ∙ sym in_d.0, in_c.1 ∙ sym in_d.1, in_c.2 ∙ sym in_d.2)

  state : (i : ℕ) → IsNode c.graph i
      → (tree_of c i ≡ tree_of d i) × (wave_of c i ≡ wave_of d i) × (local_of app c i ≡ local_of app d i)
  state i at =
      let nodes = nodes_in items in
      let found =
      Any-from_list_any (λ (n : NodeState L). n.id == i) nodes
      (sym (c_named.up i) ∙ has-Contains c.graph.nodes i at) in
      let node : NodeState L = found.1 in
      let P : ℕ → Type 0 = λ k.
      (tree_of c k ≡ tree_of d k) × (wave_of c k ≡ wave_of d k) × (local_of app c k ≡ local_of app d k) in
      subst P (eqb-true node.id i found.4)
      (same_state node (subst (Holds app c) found.3 (c_named.nodes found.0 node found.2))
      (subst (Holds app d) found.3 (d_named.nodes found.0 node found.2)))

  pub alike : AreAlike app c d
  alike = record {
    graph = same_graph c.graph d.graph c_named.as_graph d_named.as_graph (c_named.ids ∙ sym d_named.ids) up_too up_before
        (λ a b linked. sym (same_links a b) ∙ linked) (λ a b linked. same_links a b ∙ linked);
    modulus = c_named.modulus ∙ sym d_named.modulus;
    nodes = state;
  }
