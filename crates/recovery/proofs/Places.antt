-- Where no node is false, a node below a nearer neighbour that has its place gets its own by Adopt, or by Claim or Follow
-- and Adopt; and where all nodes have their places the tree picture holds.
use Rattle.std.proofs.Common.{◌≡◌, ◌≢◌, ℕ, ◌+◌, ◌<◌, ◌≤◌, ◌⊎◌, inl, inr, min}
use Rattle.std.proofs.Common.{refl, sym, ap, subst, ◌∙◌, ⊎_elim, arith, true≢false}
use Rattle.std.proofs.lemmas.Bool.{cases_lt, cases_eq, cases_Bool}
use Rattle.topology.specs.Graph.{Graph, IsGraph, IsNode, AreLinked, are_linked, IsLeader, IsDistance, Changes}
use Rattle.tree_layer.specs.declared.regs.TreeRegs.{TreeRegs}
use Rattle.tree_layer.specs.TreeRows.{IsFather, Claims, Follows, Adopts, claim_low, claim_self, claim_stray, claim_far, follow_root}
use Rattle.tree_layer.specs.TreeRows.{follow_dist, adopt_root, adopt_short, claimed, followed, adopted}
use Rattle.tree_layer.specs.TreePicture.{TreePicture}
use Rattle.tree_layer.proofs.Leaders.{linked_node}
use Rattle.recovery.specs.FalseNodes.{AreLed, IsFalse, IsPlaced, over, unled, near}
use Rattle.recovery.proofs.Forgotten.{at_top, linked_far, linked_tops, own_top, top_node, top_top}

module _ (g : Graph) (graph : IsGraph g) (K : ℕ) (top far : ℕ → ℕ) (led : AreLed g K top far) where
  -- all nodes have their places: the tree picture holds
  pub placed_picture : (t : ℕ → TreeRegs) → ((i : ℕ) → IsNode g i → IsPlaced g top far t i) → TreePicture g t
  placed_picture t placed = record {
    root = λ i node. subst (IsLeader g i) (sym (placed i node).root) (led.leads i node);
    dist = λ i node.
        let P : ℕ → ℕ → Type 0 = λ r d. IsDistance g i r d in
        subst (λ d. P (t i).root d) (sym (placed i node).dist)
        (subst (λ r. P r (far i)) (sym (placed i node).root) (led.dist i node));
    top = λ i node same. ⊎_elim (λ own. own.1)
        (λ up. let here = at_top g graph K top far led i node (sym (same ∙ (placed i node).root)) in
        absurd (omega (arith, here, up.1))) (placed i node).father;
    linked = λ i node other. ⊎_elim (λ own. absurd (other (own.0 ∙ sym (placed i node).root)))
        (λ up. up.0) (placed i node).father;
    nearer = λ i node other. ⊎_elim (λ own. absurd (other (own.0 ∙ sym (placed i node).root)))
        (λ up. let f = (t i).father in
        let there = (placed f (linked_node g graph i f up.0)).dist in
        let here = (placed i node).dist in omega (arith, here, there, up.1))
        (placed i node).father;
  }

  module _ (t : ℕ → TreeRegs) (i : ℕ) (node : IsNode g i)
      (all_true : (j : ℕ) → IsNode g j → IsFalse top far t j → ⊥) where
    root_low : (j : ℕ) → IsNode g j → (t j).root ≤ top j
    root_low j at = ⊎_elim (λ less. absurd (all_true j at (over less))) (λ low. low) (cases_lt (top j) (t j).root)

    dist_high : (j : ℕ) → IsNode g j → (t j).root ≡ top j → far j ≤ (t j).dist
    dist_high j at root = ⊎_elim (λ less. absurd (all_true j at (near root less))) (λ high. high) (cases_lt (t j).dist (far j))

    -- where nothing but an adoption is enabled at a node that knows its leader and distance, it has its place
    pub father_right : (t i).root ≡ top i → (t i).dist ≡ far i → i ≢ top i → (Claims g K t i → ⊥)
        → (Follows g K t i → ⊥) → IsPlaced g top far t i
    father_right root dist below no_claim no_follow =
        let f = (t i).father in
        let away : f ≢ i = λ own. no_claim (claim_self own (inl (λ same. below (sym same ∙ root)))) in
        ⊎_elim
        (λ linked.
        let at = linked_node g graph i f linked in
        let father : IsFather g t i f = record { named = refl; linked = linked } in
        ⊎_elim
        (λ low.
        ⊎_elim
        (λ roots.
        ⊎_elim
        (λ dists.
        let up = dist_high f at (sym roots ∙ root ∙ linked_tops g graph K top far led i f linked) in
        let far_f = linked_far g graph K top far led i f linked in
        record { root = root; dist = dist; father = inr (linked, omega (arith, up, far_f, dists, dist)) })
        (λ dists. absurd (no_follow (follow_dist f father low roots dists)))
        (cases_eq (t i).dist ((t f).dist + 1)))
        (λ roots. absurd (no_follow (follow_root f father low roots)))
        (cases_eq (t i).root (t f).root))
        (λ high. absurd (no_claim (claim_far high)))
        (cases_lt (t i).dist K))
        (λ apart. absurd (no_claim (claim_stray away (λ linked. true≢false (sym linked ∙ apart)))))
        (cases_Bool (are_linked g i f))

    -- a leader where nothing is enabled has its place
    pub leader_right : i ≡ top i → (Claims g K t i → ⊥) → IsPlaced g top far t i
    leader_right leads no_claim =
        let f = (t i).father in
        let low = root_low i node in
        ⊎_elim
        (λ own. ⊎_elim
        (λ root. ⊎_elim
        (λ dist. record {
          root = root ∙ leads;
          dist = dist ∙ sym (at_top g graph K top far led i node (sym leads));
          father = inl (leads, own);
        })
        (λ dist. absurd (no_claim (claim_self own (inr dist))))
        (cases_eq (t i).dist 0))
        (λ root. absurd (no_claim (claim_self own (inl root))))
        (cases_eq (t i).root i))
        (λ other. ⊎_elim
        (λ less. absurd (no_claim (claim_low less)))
        (λ high.
        let root : (t i).root ≡ top i = omega (arith, low, high, leads) in
        absurd (all_true i node (unled root (λ is. other
        (let P : ℕ → Type 0 = λ k. (t k).father ≡ k in
        subst P (sym leads) (ap (λ r. r.father) is))))))
        (cases_lt (t i).root i))
        (cases_eq f i)

    module _ (j : ℕ) (linked : AreLinked g i j) (nearer : far j + 1 ≡ far i) (root_j : (t j).root ≡ top j)
        (dist_j : (t j).dist ≡ far j) where
      below_top : i ≢ top i
      below_top same = let here = at_top g graph K top far led i node (sym same) in omega (arith, here, nearer)

      low_j : (t j).dist < K
      low_j = let short = led.short i node in omega (arith, short, nearer, dist_j)

      same_top : top i ≡ top j
      same_top = linked_tops g graph K top far led i j linked

      -- where it can't be adopted, the node knows its leader and distance already
      pub knows : (Adopts g K t i j → ⊥) → ((t i).root ≡ top i) × ((t i).dist ≡ far i)
      knows no_adopt =
          let low = root_low i node in
          let top_is = same_top in
          let root : (t i).root ≡ top i = ⊎_elim
          (λ less. absurd (no_adopt (adopt_root linked low_j less)))
          (λ high. omega (arith, low, high, root_j, top_is))
          (cases_lt (t i).root (t j).root) in
          let long = dist_high i node root in (
            root,
            ⊎_elim
                (λ less. absurd (no_adopt (adopt_short linked low_j (root ∙ top_is ∙ sym root_j) less)))
                (λ high. omega (arith, long, high, nearer, dist_j))
                (cases_lt ((t j).dist + 1) (t i).dist),
          )

      module _ (t' : ℕ → TreeRegs) (x : TreeRegs) (changes : Changes g t i x t') where
        there : t' j ≡ t j
        there = changes.others j (linked_node g graph i j linked)
            (λ same. graph.irreflexive i (subst (AreLinked g i) same linked))

        -- an adoption places it
        pub adoption_places : x ≡ adopted j (t j) → IsPlaced g top far t' i
        adoption_places is =
            let same = changes.here ∙ is in
            let father : (t' i).father ≡ j = ap (λ r. r.father) same in
            let P : ℕ → Type 0 = λ k. AreLinked g i k × (far k + 1 ≡ far i) in
            record {
              root = ap (λ r. r.root) same ∙ root_j ∙ sym same_top;
              dist = ap (λ r. r.dist) same ∙ ap (λ d. d + 1) dist_j ∙ nearer;
              father = inr (subst P (sym father) (linked, nearer));
            }

        -- where it claimed, it can adopt
        pub claim_adopts : x ≡ claimed i → Adopts g K t' i j
        claim_adopts is =
            let root : (t' i).root ≡ i = ap (λ r. r.root) (changes.here ∙ is) in
            let root' = ap (λ r. r.root) there in
            let dist' = ap (λ r. r.dist) there in
            let low = low_j in
            let own = own_top g graph K top far led i node in
            let top_is = same_top in
            let strict : i < top i = ⊎_elim (λ less. less) (λ most. absurd (below_top (omega (arith, own, most))))
            (cases_lt i (top i)) in
            adopt_root linked (omega (arith, low, dist')) (omega (arith, root, root', strict, top_is, root_j))

        -- where it knew its leader and distance and followed, it can adopt
        pub follow_adopts : (f : ℕ) → AreLinked g i f → (t i).root ≡ top i → (t i).dist ≡ far i
            → ((t i).root ≢ (t f).root) ⊎ ((t i).dist ≢ (t f).dist + 1)
            → x ≡ followed K f (t f) → Adopts g K t' i j
        follow_adopts f to_f root dist differs is =
            let at = linked_node g graph i f to_f in
            let root' : (t' i).root ≡ (t f).root = ap (λ r. r.root) (changes.here ∙ is) in
            let dist' : (t' i).dist ≡ min ((t f).dist + 1) K = ap (λ r. r.dist) (changes.here ∙ is) in
            let root_j' = ap (λ r. r.root) there in
            let dist_j' = ap (λ r. r.dist) there in
            let low = low_j in
            let low_f = root_low f at in
            let top_f = linked_tops g graph K top far led i f to_f in
            let top_j = same_top in
            let short = led.short i node in
            ⊎_elim
            (λ less. adopt_root linked (omega (arith, low, dist_j'))
            (omega (arith, less, root', root_j', root_j, top_j)))
            (λ most.
            let same : (t f).root ≡ top f = omega (arith, most, low_f, top_f) in
            let high = dist_high f at same in
            let far_f = linked_far g graph K top far led i f to_f in
            let apart : (t f).dist + 1 ≢ far i = λ e. ⊎_elim (λ no_root. no_root (root ∙ top_f ∙ sym same))
            (λ no_dist. no_dist (dist ∙ sym e)) differs in
            let more : far i < (t f).dist + 1 = ⊎_elim (λ less. less)
            (λ most. absurd (apart (omega (arith, most, high, far_f)))) (cases_lt (far i) ((t f).dist + 1)) in
            adopt_short linked (omega (arith, low, dist_j'))
            (root' ∙ same ∙ sym top_f ∙ top_j ∙ sym root_j ∙ sym root_j')
            (omega (arith, more, short, dist', dist_j', dist_j, nearer)))
            (cases_lt (t f).root (top i))

      module _ (t' : ℕ → TreeRegs) (x : TreeRegs) (changes : Changes g t i x t') where
        top_stays : t' (top i) ≡ t (top i)
        top_stays = changes.others (top i) (top_node g graph K top far led i node) (λ same. below_top (sym same))

        -- after an adoption it isn't false
        pub adoption_true : x ≡ adopted j (t j) → IsFalse top far t' i → ⊥
        adoption_true is (over less) =
            let root = ap (λ r. r.root) (changes.here ∙ is) in
            let top_is = same_top in absurd (omega (arith, less, root, root_j, top_is))
        adoption_true is (near root less) =
            let dist = ap (λ r. r.dist) (changes.here ∙ is) in absurd (omega (arith, less, dist, dist_j, nearer))
        adoption_true is (unled root not) =
            let P : ℕ → Type 0 = λ k. t k ≢ claimed k in
            all_true j (linked_node g graph i j linked)
            (unled root_j (subst P same_top (λ own. not (top_stays ∙ own))))

        -- nor where it followed a father that wasn't
        pub follow_true : (f : ℕ) → AreLinked g i f → x ≡ followed K f (t f) → IsFalse top far t' i → ⊥
        follow_true f to_f is (over less) =
            let root = ap (λ r. r.root) (changes.here ∙ is) in
            let top_f = linked_tops g graph K top far led i f to_f in
            let low_f = root_low f (linked_node g graph i f to_f) in absurd (omega (arith, less, root, top_f, low_f))
        follow_true f to_f is (near own less) =
            let root = ap (λ r. r.root) (changes.here ∙ is) in
            let dist : (t' i).dist ≡ min ((t f).dist + 1) K = ap (λ r. r.dist) (changes.here ∙ is) in
            let top_f = linked_tops g graph K top far led i f to_f in
            let far_f = linked_far g graph K top far led i f to_f in
            let short = led.short i node in
            let high = dist_high f (linked_node g graph i f to_f) (sym root ∙ own ∙ top_f) in
            absurd (omega (arith, less, dist, far_f, short, high))
        follow_true f to_f is (unled own not) =
            let root = ap (λ r. r.root) (changes.here ∙ is) in
            let top_f = linked_tops g graph K top far led i f to_f in
            let P : ℕ → Type 0 = λ k. t k ≢ claimed k in
            all_true f (linked_node g graph i f to_f)
            (unled (sym root ∙ own ∙ top_f) (subst P top_f (λ own. not (top_stays ∙ own))))

    -- and no node becomes false where i isn't, and where a leader claims
    pub none_false : (t' : ℕ → TreeRegs) (x : TreeRegs) → Changes g t i x t' → (IsFalse top far t' i → ⊥)
        → (i ≡ top i → t' i ≡ claimed i) → (j : ℕ) → IsNode g j → IsFalse top far t' j → ⊥
    none_false t' x changes own leads j at is =
        ⊎_elim
        (λ same. let P : ℕ → Type 0 = λ k. IsFalse top far t' k in own (subst P same is))
        (λ other. all_true j at (before j at other is))
        (cases_eq j i)
      where
        before : (j : ℕ) → IsNode g j → j ≢ i → IsFalse top far t' j → IsFalse top far t j
        before j at other (over less) =
            let same = ap (λ r. r.root) (changes.others j at other) in over (omega (arith, less, same))
        before j at other (near root less) =
            let same = ap (λ r. r.dist) (changes.others j at other) in
            near (sym (ap (λ r. r.root) (changes.others j at other)) ∙ root) (omega (arith, less, same))
        before j at other (unled root not) =
            unled (sym (ap (λ r. r.root) (changes.others j at other)) ∙ root)
            (⊎_elim
            (λ same. λ is. absurd (not
            (let P : ℕ → Type 0 = λ k. t' k ≡ claimed k in
            subst P (sym same) (leads (sym same ∙ sym (top_top g graph K top far led j at) ∙ ap top same)))))
            (λ apart. λ is. not (changes.others (top j) (top_node g graph K top far led j at) apart ∙ is))
            (cases_eq (top j) i))
