-- The leaders of a tree picture, and what passes down its father links.
use Rattle.std.proofs.Common.{◌≡◌, ◌≢◌, ℕ, zero, suc, ◌+◌, ◌⊎◌, inl, inr, [], ◌∷◌, refl, sym, subst}
use Rattle.std.proofs.Common.{◌∙◌, ⊎_elim, arith}
use Rattle.std.proofs.lemmas.Bool.{cases_eq}
use Rattle.topology.specs.Components.{leader}
use Rattle.topology.specs.Graph.{Graph, IsGraph, IsNode, AreLinked, IsReached}
use Rattle.topology.proofs.Components.{leader_leads, one_leader, reached_on, same_leader}
use Rattle.tree_layer.specs.declared.regs.TreeRegs.{TreeRegs}
use Rattle.tree_layer.specs.TreeRows.{IsFather}
use Rattle.tree_layer.specs.TreePicture.{TreePicture}
use Rattle.tree_layer.proofs.Leaders.{linked_node}

-- no father link leads from a node to itself
pub not_own_father : (g : Graph) (t : ℕ → TreeRegs) (i j : ℕ) → IsGraph g → IsFather g t i j → i ≢ j
not_own_father g t i j graph father same = graph.irreflexive i (subst (λ k. AreLinked g i k) (sym same) father.linked)

-- i is its leader, and its own father
pub record IsTop (g : Graph) (t : ℕ → TreeRegs) (i : ℕ) : Type 0 where
  pub leads : i ≡ leader g i
  pub father : (t i).father ≡ i

-- i has a father one nearer
pub record IsUnder (g : Graph) (t : ℕ → TreeRegs) (i : ℕ) : Type 0 where
  pub father : IsFather g t i (t i).father
  pub dist : (t i).dist ≡ (t (t i).father).dist + 1

-- a walk leads on to the father
pub reached_father : (g : Graph) (t : ℕ → TreeRegs) (top i j : ℕ) → IsFather g t i j → IsReached g top i
    → IsReached g top j
reached_father g t top i j father r = reached_on g top i j r (j ∷ [], (father.linked, refl))

module _ (g : Graph) (graph : IsGraph g) (t : ℕ → TreeRegs) where
  -- a node and its father have one leader
  pub father_leader : (i j : ℕ) → IsFather g t i j → leader g j ≡ leader g i
  father_leader i j father =
      same_leader g i j graph (graph.ends i j father.linked) (j ∷ [], (father.linked, refl))

module _ (g : Graph) (graph : IsGraph g) (t : ℕ → TreeRegs) (picture : TreePicture g t) where
  pub top_or_under : (i : ℕ) → IsNode g i → IsTop g t i ⊎ IsUnder g t i
  top_or_under i node =
      ⊎_elim
      (λ same. inl
      (record {
        leads = same ∙ one_leader g i (t i).root (leader g i) (picture.root i node) (leader_leads g i graph node);
        father = picture.top i node same;
      }))
      (λ below. inr
      (record {
        father = record { named = refl; linked = picture.linked i node below };
        dist = picture.nearer i node below;
      }))
      (cases_eq i (t i).root)

  -- only a leader is its own father
  pub own_father : (i : ℕ) → IsNode g i → (t i).father ≡ i → i ≡ leader g i
  own_father i node own =
      ⊎_elim
      (λ (top : IsTop g t i). top.leads)
      (λ (under : IsUnder g t i). absurd (not_own_father g t i (t i).father graph under.father (sym own)))
      (top_or_under i node)

  -- what holds of the leaders and passes from each father to its child holds of each node
  module _ (P : ℕ → Type 0) (top : (i : ℕ) → IsNode g i → i ≡ leader g i → P i)
      (below : (i j : ℕ) → IsFather g t i j → P j → P i) where
    -- by recursion on the distance
    down_from : (d i : ℕ) → IsNode g i → (t i).dist ≡ d → P i
    down_from zero i node dist =
        ⊎_elim
        (λ (is : IsTop g t i). top i node is.leads)
        (λ (under : IsUnder g t i). absurd (omega (arith, under.dist)))
        (top_or_under i node)
    down_from (suc d) i node dist =
        ⊎_elim
        (λ (is : IsTop g t i). top i node is.leads)
        (λ (under : IsUnder g t i).
        let up = (t i).father in
        below i up under.father
        (down_from d up (linked_node g graph i up under.father.linked) (omega (arith, under.dist))))
        (top_or_under i node)

    pub down_tree : (i : ℕ) → IsNode g i → P i
    down_tree i node = down_from (t i).dist i node refl
