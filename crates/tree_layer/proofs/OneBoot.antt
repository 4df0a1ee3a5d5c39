-- The registers that the nodes of a graph are booted with are one list.
use Rattle.std.proofs.Common.{◌≡◌, ℕ, ◌<◌, List, length, get_or, sym, ap₂, subst, subst₂, ◌∙◌, arith, ⊎_elim}
use Rattle.std.proofs.lemmas.Bool.{both_ways, cases_Bool, cases_eq}
use Rattle.std.proofs.lemmas.List.{same_lists}
use Rattle.topology.specs.Graph.{Graph, IsDistance, IsNode, is_node}
use Rattle.topology.proofs.Membership.{Contains-has, has-Contains}
use Rattle.topology.proofs.Walks.{same_distance}
use Rattle.tree_layer.specs.BootTree.{AreBooted, IsBooted, IsNearer}
use Rattle.tree_layer.specs.declared.regs.TreeRegs.{TreeRegs}

one_regs : (g : Graph) (i : ℕ) (r s : TreeRegs) → IsBooted g i r → IsBooted g i s → r ≡ s
one_regs g i r s a b =
    let regs : ℕ → ℕ × ℕ → TreeRegs = λ n p. record { root = n; father = p.0; dist = p.1 } in
    ap₂ regs root (ap₂ (λ x y. (x, y)) father dist)
  where
    root : r.root ≡ s.root
    root = omega (arith, a.root.greatest s.root b.root.reached, b.root.greatest r.root a.root.reached)

    dist : r.dist ≡ s.dist
    dist = same_distance g i s.root r.dist s.dist (subst (λ n. IsDistance g i n r.dist) root a.dist) b.dist

    -- either father is one step nearer to the one root, and the least such neighbour
    father : r.father ≡ s.father
    father =
        ⊎_elim (λ top. a.top top ∙ sym (b.top (top ∙ root)))
        (λ below.
        let nearer = subst₂ (λ n d. IsNearer g n d i r.father) root dist (a.father below) in
        let other =
        subst₂ (λ n d. IsNearer g n d i s.father) (sym root) (sym dist) (b.father (λ top. below (top ∙ sym root)))
        in
        omega (arith, a.least s.father other, b.least r.father nearer))
        (cases_eq i r.root)

pub one_boot : (g : Graph) (trees others : List TreeRegs) → AreBooted g trees → AreBooted g others → trees ≡ others
one_boot g trees others a b =
    same_lists trees others (a.count ∙ sym b.count)
    (λ k d low.
    let low_b : k < length others = omega (arith, low, a.count, b.count) in
    let i : ℕ = get_or g.ids k 0 in
    ⊎_elim
    (λ up.
    let node : IsNode g i = Contains-has g.nodes i up in
    one_regs g i (get_or trees k d) (get_or others k d) (a.each k d low node) (b.each k d low_b node))
    (λ none.
    let down : IsNode g i → ⊥ = λ node. both_ways (is_node g i) none (has-Contains g.nodes i node) in
    a.down k d low down ∙ sym (b.down k d low_b down))
    (cases_Bool (is_node g i)))
