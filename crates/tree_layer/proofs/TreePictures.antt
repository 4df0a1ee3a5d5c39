-- Where no tree row is enabled the tree picture holds, and where it holds none is enabled.
use Rattle.std.proofs.Common.{◌≡◌, ◌≢◌, ℕ, zero, suc, ◌+◌, ◌-◌, ◌<◌, ◌≤◌, ◌⊎◌, ◌↔◌, inl, inr, List, [], ◌∷◌, length}
use Rattle.std.proofs.Common.{refl, sym, ap, subst, ◌∙◌, ⊎_elim, arith, true≢false}
use Rattle.std.proofs.lemmas.Bool.{cases_lt, cases_eq, cases_Bool}
use Rattle.topology.specs.Graph.{Graph, IsGraph, IsNode, AreLinked, are_linked, IsWalk, IsDistance}
use Rattle.topology.proofs.Walks.{linked_back, same_distance}
use Rattle.tree_layer.specs.declared.regs.TreeRegs.{TreeRegs}
use Rattle.tree_layer.specs.BootTree.{IsBooted}
use Rattle.tree_layer.specs.TreeRows.{Claims, Follows, Adopts, claim_low, claim_self, claim_stray, claim_far}
use Rattle.tree_layer.specs.TreeRows.{follow_root, follow_dist, adopt_root, adopt_short}
use Rattle.tree_layer.specs.TreePicture.{TreePicture, TreeRests}
use Rattle.tree_layer.proofs.Counts.{length_above}
use Rattle.tree_layer.proofs.Leaders.{linked_node, walked_node, linked_leaders}

-- ---- from rows at rest to the picture

-- i is the root of its tree
record IsTop (t : ℕ → TreeRegs) (i : ℕ) : Type 0 where
  father : (t i).father ≡ i
  root : (t i).root ≡ i
  dist : (t i).dist ≡ 0

-- i has a father one nearer
record IsUnder (g : Graph) (t : ℕ → TreeRegs) (i : ℕ) : Type 0 where
  linked : AreLinked g i (t i).father
  dist : (t i).dist ≡ (t (t i).father).dist + 1

-- the fathers of i lead to its root in d links
record LeadsUp (g : Graph) (t : ℕ → TreeRegs) (i d : ℕ) : Type 0 where
  links : List ℕ
  walk : IsWalk g i links (t i).root
  count : length links ≡ d
  top : (t (t i).root).dist ≡ 0

module _ (g : Graph) (graph : IsGraph g) (K : ℕ) (t : ℕ → TreeRegs) (rests : (i : ℕ) → IsNode g i → TreeRests g K t i)
  where
    dist_low : (i : ℕ) → IsNode g i → (t i).dist < K
    dist_low i node =
        ⊎_elim (λ low. low) (λ far. absurd ((rests i node).claims (claim_far far))) (cases_lt (t i).dist K)

    root_high : (i : ℕ) → IsNode g i → i ≤ (t i).root
    root_high i node =
        ⊎_elim (λ low. absurd ((rests i node).claims (claim_low low))) (λ high. high) (cases_lt (t i).root i)

    -- row 7 in both directions of a link: its ends have one root
    linked_root-le : (i j : ℕ) → AreLinked g i j → (t j).root ≤ (t i).root
    linked_root-le i j linked =
        ⊎_elim
        (λ less. absurd
        ((rests i (graph.ends i j linked)).adopts j
        (adopt_root linked (dist_low j (linked_node g graph i j linked)) less)))
        (λ most. most)
        (cases_lt (t i).root (t j).root)

    linked_roots : (i j : ℕ) → AreLinked g i j → (t i).root ≡ (t j).root
    linked_roots i j linked =
        omega (arith, linked_root-le i j linked, linked_root-le j i (linked_back g graph i j linked))

    -- row 8
    linked_dist : (i j : ℕ) → AreLinked g i j → (t i).dist ≤ (t j).dist + 1
    linked_dist i j linked =
        ⊎_elim
        (λ less. absurd
        ((rests i (graph.ends i j linked)).adopts j
        (adopt_short linked (dist_low j (linked_node g graph i j linked)) (linked_roots i j linked) less)))
        (λ most. most)
        (cases_lt ((t j).dist + 1) (t i).dist)

    walked_roots : (cs : List ℕ) (i j : ℕ) → IsWalk g i cs j → (t i).root ≡ (t j).root
    walked_roots [] i j walk = ap (λ k. (t k).root) walk
    walked_roots (c ∷ cs) i j walk = linked_roots i c walk.0 ∙ walked_roots cs c j walk.1

    walked_dist : (cs : List ℕ) (i j : ℕ) → IsWalk g i cs j → (t i).dist ≤ (t j).dist + length cs
    walked_dist [] i j walk = omega (arith, ap (λ k. (t k).dist) walk)
    walked_dist (c ∷ cs) i j walk = omega (arith, linked_dist i c walk.0, walked_dist cs c j walk.1)

    own_father : (i : ℕ) → IsNode g i → (t i).father ≡ i → IsTop t i
    own_father i node own = record {
      father = own;
      root = ⊎_elim (λ same. same) (λ other. absurd ((rests i node).claims (claim_self own (inl other))))
          (cases_eq (t i).root i);
      dist = ⊎_elim (λ none. none) (λ some. absurd ((rests i node).claims (claim_self own (inr some))))
          (cases_eq (t i).dist 0);
    }

    other_linked : (i : ℕ) → IsNode g i → (t i).father ≢ i → AreLinked g i (t i).father
    other_linked i node other =
        ⊎_elim
        (λ linked. linked)
        (λ apart. absurd ((rests i node).claims (claim_stray other (λ linked. true≢false (sym linked ∙ apart)))))
        (cases_Bool (are_linked g i (t i).father))

    other_father : (i : ℕ) → IsNode g i → (t i).father ≢ i → IsUnder g t i
    other_father i node other =
        let linked = other_linked i node other in
        record {
          linked = linked;
          dist =
              ⊎_elim
              (λ one. one)
              (λ more. absurd
              ((rests i node).follows
              (follow_dist (t i).father (record { named = refl; linked = linked }) (dist_low i node)
              (linked_roots i (t i).father linked) more)))
              (cases_eq (t i).dist ((t (t i).father).dist + 1));
        }

    top_or_under : (i : ℕ) → IsNode g i → IsTop t i ⊎ IsUnder g t i
    top_or_under i node =
        ⊎_elim (λ own. inl (own_father i node own)) (λ other. inr (other_father i node other)) (cases_eq (t i).father i)

    -- by recursion on the distance
    leads_up : (d i : ℕ) → IsNode g i → (t i).dist ≡ d → LeadsUp g t i d
    leads_up zero i node dist =
        ⊎_elim
        (λ (top : IsTop t i). record {
          links = [];
          walk = sym top.root;
          count = refl;
          top = ap (λ k. (t k).dist) top.root ∙ top.dist;
        })
        (λ (under : IsUnder g t i). absurd (omega (arith, under.dist)))
        (top_or_under i node)
    leads_up (suc d) i node dist =
        ⊎_elim
        (λ (top : IsTop t i). absurd (omega (arith, top.dist)))
        (λ (under : IsUnder g t i).
        let father = (t i).father in
        let same = linked_roots i father under.linked in
        let on = leads_up d father (linked_node g graph i father under.linked) (omega (arith, under.dist)) in
        record {
          links = father ∷ on.links;
          walk = (under.linked, subst (λ k. IsWalk g father on.links k) (sym same) on.walk);
          count = ap suc on.count;
          top = ap (λ k. (t k).dist) same ∙ on.top;
        })
        (top_or_under i node)

    -- a node that isn't its own root has a father one nearer
    under_root : (i : ℕ) → IsNode g i → i ≢ (t i).root → IsUnder g t i
    under_root i node below =
        ⊎_elim
        (λ (top : IsTop t i). absurd (below (sym top.root)))
        (λ under. under)
        (top_or_under i node)

    -- and one that is has itself as its father
    root_own : (i : ℕ) → IsNode g i → i ≡ (t i).root → (t i).father ≡ i
    root_own i node same =
        ⊎_elim
        (λ (top : IsTop t i). top.father)
        (λ (under : IsUnder g t i).
        let on = leads_up (t i).dist i node refl in
        absurd (omega (arith, under.dist, on.top, ap (λ k. (t k).dist) same)))
        (top_or_under i node)

    pub rests_picture : TreePicture g t
    rests_picture = record {
      root = λ i node.
          let on = leads_up (t i).dist i node refl in
          record {
            reached = (on.links, on.walk);
            greatest =
                λ j reached. omega (
                  arith,
                  root_high j (walked_node g graph reached.0 i j node reached.1),
                  walked_roots reached.0 i j
                      reached.1,
                );
          };
      dist = λ i node.
          let on = leads_up (t i).dist i node refl in
          record {
            walk = (on.links, on.walk, on.count);
            least = λ cs walk. omega (arith, on.top, walked_dist cs i (t i).root walk);
          };
      top = root_own;
      linked = λ i node below. (under_root i node below).linked;
      nearer = λ i node below. (under_root i node below).dist;
    }

-- ---- from the picture to rows at rest

module _ (g : Graph) (graph : IsGraph g) (t : ℕ → TreeRegs) (picture : TreePicture g t) where
  root_dist : (i : ℕ) → IsNode g i → i ≡ (t i).root → (t i).dist ≡ 0
  root_dist i node same = omega (arith, (picture.dist i node).least [] same)

  -- a father register that names the node itself is that of a root
  own_root : (i : ℕ) → IsNode g i → (t i).father ≡ i → i ≡ (t i).root
  own_root i node own =
      ⊎_elim
      (λ same. same)
      (λ below. absurd (graph.irreflexive i (subst (λ k. AreLinked g i k) own (picture.linked i node below))))
      (cases_eq i (t i).root)

  -- and any other that of a node below its root
  other_root : (i : ℕ) → IsNode g i → (t i).father ≢ i → i ≢ (t i).root
  other_root i node other same = other (picture.top i node same)

  same_roots : (i j : ℕ) → AreLinked g i j → (t i).root ≡ (t j).root
  same_roots i j linked =
      linked_leaders g graph linked (picture.root i (graph.ends i j linked))
      (picture.root j (linked_node g graph i j linked))

  -- a node stands at each smaller distance
  at_distance : (d m i : ℕ) → IsNode g i → (t i).dist ≡ m + d → (k : ℕ) × IsNode g k × ((t k).dist ≡ m)
  at_distance zero m i node dist = (i, node, omega arith)
  at_distance (suc d) m i node dist =
      let father = (t i).father in
      let below : i ≢ (t i).root = λ same. absurd (omega (arith, root_dist i node same)) in
      at_distance d m father (linked_node g graph i father (picture.linked i node below))
      (omega (arith, picture.nearer i node below))

  dist_below : (i : ℕ) → IsNode g i → (t i).dist < length g.ids
  dist_below i node =
      length_above (λ k. (t k).dist) (suc (t i).dist) g.ids
      (λ m low.
      let at = at_distance ((t i).dist - m) m i node (omega arith) in
      (at.0, graph.within at.0 at.1, at.2))

  module _ (K : ℕ) (room : length g.ids ≤ K) (i : ℕ) (node : IsNode g i) where
    no_claim : Claims g K t i → ⊥
    no_claim (claim_low low) = absurd (omega (arith, low, (picture.root i node).greatest i ([], refl)))
    no_claim (claim_self own (inl other)) = other (sym (own_root i node own))
    no_claim (claim_self own (inr far)) = far (root_dist i node (own_root i node own))
    no_claim (claim_stray other apart) = apart (picture.linked i node (other_root i node other))
    no_claim (claim_far far) = absurd (omega (arith, far, dist_below i node))

    no_follow : Follows g K t i → ⊥
    no_follow (follow_root j father low differ) = differ (same_roots i j father.linked)
    no_follow (follow_dist j father low same differ) =
        differ (subst (λ k. (t i).dist ≡ (t k).dist + 1) father.named (picture.nearer i node (other_root i node other)))
      where
        other : (t i).father ≢ i
        other own = graph.irreflexive i (subst (λ k. AreLinked g i k) (sym father.named ∙ own) father.linked)

    no_adopt : (j : ℕ) → Adopts g K t i j → ⊥
    no_adopt j (adopt_root linked low less) = absurd (omega (arith, less, same_roots i j linked))
    no_adopt j (adopt_short linked low same less) =
        let on = (picture.dist j (linked_node g graph i j linked)).walk in
        let long = (picture.dist i node).least (j ∷ on.0) (linked, subst (λ k. IsWalk g j on.0 k) (sym same) on.1) in
        absurd (omega (arith, less, long, on.2))

    pub picture_rests : TreeRests g K t i
    picture_rests = record { claims = no_claim; follows = no_follow; adopts = no_adopt }

pub rests_where_picture : (g : Graph) (K : ℕ) (t : ℕ → TreeRegs) → IsGraph g → length g.ids ≤ K
    → (((i : ℕ) → IsNode g i → TreeRests g K t i) ↔ TreePicture g t)
rests_where_picture g K t graph room =
    (rests_picture g graph K t, λ picture i node. picture_rests g graph t picture K room i node)

-- ---- the booted registers

pub booted_picture : (g : Graph) (t : ℕ → TreeRegs) → IsGraph g → ((i : ℕ) → IsNode g i → IsBooted g i (t i))
    → TreePicture g t
booted_picture g t graph booted = record {
  root = λ i node. (booted i node).root;
  dist = λ i node. (booted i node).dist;
  top = λ i node. (booted i node).top;
  linked = λ i node below. ((booted i node).father below).linked;
  nearer = λ i node below.
      let father = (t i).father in
      let near = (booted i node).father below in
      let up = booted father (linked_node g graph i father near.linked) in
      let same = linked_leaders g graph near.linked (booted i node).root up.root in
      let steps =
      same_distance g father (t i).root near.steps (t father).dist near.distance
      (subst (λ k. IsDistance g father k (t father).dist) (sym same) up.dist) in
      omega (arith, near.nearer, steps);
}
