-- The neighbours of a node with their tree registers, as its view has them.
use Rattle.std.proofs.Common.{◌≡◌, ℕ, ◌<◌, ◌==◌, ◌||◌, List, [], ◌∷◌, map, refl, sym, ap, subst, ◌∙◌}
use Rattle.std.specs.List.{list_any}
use Rattle.std.specs.List.Sorted.{IsStrictlyIncreasing}
use Rattle.std.proofs.lemmas.Bool.{and_parts}
use Rattle.std.proofs.lemmas.List.Kept.{IsStrictlyIncreasing-filter}
use Rattle.topology.proofs.Membership.{has-filter}
use Rattle.topology.specs.Graph.{Graph, IsGraph, are_linked, neighbours_of, has}
use Rattle.tree_layer.specs.declared.regs.TreeRegs.{TreeRegs}
use Rattle.tree_layer.specs.TreeTable.{IsView}

ids_of-trees : (t : ℕ → TreeRegs) (is : List ℕ) → map (λ (j : ℕ × TreeRegs). j.0) (map (λ j. (j, t j)) is) ≡ is
ids_of-trees t [] = refl
ids_of-trees t (i ∷ is) = ap (λ r. i ∷ r) (ids_of-trees t is)

any-trees : (t : ℕ → TreeRegs) (i : ℕ) (is : List ℕ)
    → list_any (λ (j : ℕ × TreeRegs). j.0 == i) (map (λ j. (j, t j)) is) ≡ has is i
any-trees t i [] = refl
any-trees t i (j ∷ js) = ap (λ b. (j == i) || b) (any-trees t i js)

-- a node's neighbours make a view
pub near_is_view : (g : Graph) (K : ℕ) (t : ℕ → TreeRegs) (i : ℕ) → IsGraph g → 0 < K
    → IsView i K (map (λ j. (j, t j)) (neighbours_of g i))
near_is_view g K t i graph some =
    let P : List ℕ → Type 0 = λ is. IsStrictlyIncreasing is in
    record {
      bounded = some;
      ascending = subst P (sym (ids_of-trees t (neighbours_of g i))) (IsStrictlyIncreasing-filter _ _ graph.ascending);
      others =
          λ own. graph.irreflexive i
          (and_parts (are_linked g i i) (has g.ids i)
          (sym (any-trees t i (neighbours_of g i) ∙ has-filter (are_linked g i) g.ids i) ∙ own)).0;
    }
