-- Steps of a configuration by which a node gets its place.
use Rattle.std.proofs.Common.{◌≡◌, ◌≢◌, ℕ, ◌+◌, ◌⊎◌, inl, inr, refl, sym, ap, subst, ◌∙◌, true≢false}
use Rattle.std.proofs.Common.{arith}
use Rattle.app_interface.specs.Application.{App}
use Rattle.topology.specs.Graph.{Graph, IsGraph, IsNode, AreLinked, Changes, node_bound}
use Rattle.tree_layer.specs.declared.regs.TreeRegs.{TreeRegs}
use Rattle.tree_layer.specs.TreeRows.{Adopts, Follows, adopted, claimed, followed, follow_dist, follow_root}
use Rattle.reset_model.specs.declared.event.Event.TheVariants.{Adopt, Claim, Follow}
use Rattle.reset_model.specs.declared.step.StepRefusal.{StepRefusal}
use Rattle.reset_model.specs.Configuration.{Configuration, tree_of}
use Rattle.reset_model.specs.MachineSteps.{IsRefused, IsStep, act_refused, act_step, row_refused, row_step}
use Rattle.reset_model.specs.Steps.{is_act, not_enabled, strange_neighbour, strange_node}
use Rattle.tree_layer.proofs.Leaders.{linked_node}
use Rattle.recovery.specs.FalseNodes.{AreLed, IsFalse, IsNext, IsPlaced, IsTarget, Places, far_of, top_of}
use Rattle.recovery.proofs.Forgotten.{at_top, claimed_true}
use Rattle.recovery.proofs.ForgetSteps.{refused_rests}
use Rattle.recovery.proofs.Places.{adoption_places, adoption_true, claim_adopts, father_right, follow_adopts, follow_true}
use Rattle.recovery.proofs.Places.{knows, leader_right, none_false}
use Rattle.recovery.proofs.Potential.{picture_leads}

-- a place is told by the node's own registers
pub same_place : (g : Graph) (top far : ℕ → ℕ) (t t' : ℕ → TreeRegs) (i : ℕ) → t' i ≡ t i → IsPlaced g top far t i
    → IsPlaced g top far t' i
same_place g top far t t' i same p =
    let P : TreeRegs → Type 0 = λ r.
    ((i ≡ top i) × (r.father ≡ i)) ⊎ (AreLinked g i r.father × (far r.father + 1 ≡ far i)) in
    record {
      root = ap (λ r. r.root) same ∙ p.root;
      dist = ap (λ r. r.dist) same ∙ p.dist;
      father = subst P (sym same) p.father;
    }

-- what a step changes of the tree, over the graph before it
record Moves {L : Type 0} (c c' : Configuration L) (i : ℕ) (x : TreeRegs) : Type 0 where
  graph : c'.graph ≡ c.graph
  changes : Changes c.graph (tree_of c) i x (tree_of c')

module _ {L : Type 0} (app : App L) (c c' : Configuration L) (i : ℕ) where
  claim_moves : IsStep app c (Claim i) c' → Moves c c' i (claimed i)
  claim_moves (row_step row) = record { graph = row.graph; changes = row.regs.trees }
  claim_moves (act_step k case with same is) = absurd (true≢false (sym (ap is_act same)))

  adopt_moves : (j : ℕ) → IsStep app c (Adopt i j) c' → Moves c c' i (adopted j (tree_of c j))
  adopt_moves j (row_step row) = record { graph = row.graph; changes = row.regs.trees }
  adopt_moves j (act_step k case with same is) = absurd (true≢false (sym (ap is_act same)))

  follow_moves : IsStep app c (Follow i) c'
      → Moves c c' i (followed (node_bound c.graph) (tree_of c i).father (tree_of c (tree_of c i).father))
      × Follows c.graph (node_bound c.graph) (tree_of c) i
  follow_moves (row_step row) = (record { graph = row.graph; changes = row.regs.trees }, row.regs.enabled)
  follow_moves (act_step k case with same is) = absurd (true≢false (sym (ap is_act same)))

-- a refused adoption of a neighbour isn't enabled
pub adopt_rests : {L : Type 0} (app : App L) (c : Configuration L) (i j : ℕ) (f : StepRefusal) → IsRefused app c (Adopt i j) f
    → IsNode c.graph i → AreLinked c.graph i j → Adopts c.graph (node_bound c.graph) (tree_of c) i j → ⊥
adopt_rests app c i j f (row_refused same (strange_node off)) node linked on = off node
adopt_rests app c i j f (row_refused same (strange_neighbour k at named apart)) node linked on =
    let same : j ≡ k = grind (arith, named) in apart (subst (AreLinked c.graph i) same linked)
adopt_rests app c i j f (row_refused same (not_enabled named off)) node linked on = off on
adopt_rests app c i j f (act_refused k case with same is) node linked on = absurd (true≢false (sym (ap is_act same)))

module _ {L : Type 0} (app : App L) (c b : Configuration L) (i : ℕ) (graph : IsGraph c.graph) (target : IsTarget c b)
    (next : IsNext c b i) where
  led : AreLed c.graph (node_bound c.graph) (top_of b) (far_of b)
  led = picture_leads c.graph graph (tree_of b) target.picture

  -- ---- a leader

  pub leader_claims : (c' : Configuration L) → top_of b i ≡ i → IsStep app c (Claim i) c' → Places c b c' i
  leader_claims c' leads step =
      let m = claim_moves app c c' i step in
      let far = at_top c.graph graph (node_bound c.graph) (top_of b) (far_of b) led i next.node leads in
      let here = m.changes.here in
      record {
        graph = m.graph;
        placed = record {
          root = ap (λ r. r.root) here ∙ sym leads;
          dist = ap (λ r. r.dist) here ∙ sym far;
          father = inl (sym leads, ap (λ r. r.father) here);
        };
        others = m.changes.others;
        all_true = none_false c.graph graph (node_bound c.graph) (top_of b) (far_of b) led (tree_of c) i next.node
            next.all_true (tree_of c') (claimed i) m.changes
            (claimed_true c.graph graph (node_bound c.graph) (top_of b) (far_of b) led (tree_of c') i next.node here)
            (λ own. here);
      }

  pub leader_rests : (c' : Configuration L) (f : StepRefusal) → top_of b i ≡ i → c' ≡ c → IsRefused app c (Claim i) f
      → Places c b c' i
  leader_rests c' f leads same no_claim =
      let P : Configuration L → Type 0 = λ k. Places c b k i in
      subst P (sym same) (record {
        graph = refl;
        placed = leader_right c.graph graph (node_bound c.graph) (top_of b) (far_of b) led (tree_of c) i next.node
            next.all_true (sym leads) (refused_rests app c (Claim i) f refl no_claim next.node refl);
        others = λ j at other. refl;
        all_true = next.all_true;
      })

  -- ---- another node, below its father in the tree of shortest ways

  module _ (below : top_of b i ≢ i) where
    abbrev pub from : ℕ
    from = (tree_of b i).father

    linked : AreLinked c.graph i from
    linked = target.picture.linked i next.node (λ same. below (sym same))

    nearer : far_of b from + 1 ≡ far_of b i
    nearer = sym (target.picture.nearer i next.node (λ same. below (sym same)))

    from_node : IsNode c.graph from
    from_node = linked_node c.graph graph i from linked

    apart : from ≢ i
    apart same = let long = nearer in
        let P : ℕ → Type 0 = λ k. far_of b k + 1 ≡ far_of b i in
        let loop = subst P same long in absurd (omega (arith, loop))

    from_placed : IsPlaced c.graph (top_of b) (far_of b) (tree_of c) from
    from_placed = let long = nearer in next.nearer from from_node (omega (arith, long))

    -- after one step at i alone the adoption is enabled
    pub record Between (m : Configuration L) : Type 0 where
      graph_is : m.graph ≡ c.graph
      others : (k : ℕ) → IsNode c.graph k → k ≢ i → tree_of m k ≡ tree_of c k
      all_true : (k : ℕ) → IsNode c.graph k → IsFalse (top_of b) (far_of b) (tree_of m) k → ⊥

    along : (m c' : Configuration L) → Between m → IsStep app m (Adopt i from) c' → Places c b c' i
    along m c' on step =
        let t = tree_of m in
        let K = node_bound c.graph in
        let moves = adopt_moves app m c' i from step in
        let P : Graph → Type 0 = λ g. Changes g t i (adopted from (t from)) (tree_of c') in
        let changes = subst P on.graph_is moves.changes in
        let up = same_place c.graph (top_of b) (far_of b) (tree_of c) t from (on.others from from_node apart) from_placed in
        record {
          graph = moves.graph ∙ on.graph_is;
          placed = adoption_places c.graph graph K (top_of b) (far_of b) led t i next.node on.all_true from linked nearer
              up.root up.dist (tree_of c') (adopted from (t from)) changes refl;
          others = λ k at other. changes.others k at other ∙ on.others k at other;
          all_true = none_false c.graph graph K (top_of b) (far_of b) led t i next.node on.all_true (tree_of c')
              (adopted from (t from)) changes
              (adoption_true c.graph graph K (top_of b) (far_of b) led t i next.node on.all_true from linked nearer
              up.root up.dist (tree_of c') (adopted from (t from)) changes refl)
              (λ own. absurd (below (sym own)));
        }

    pub adopts_now : (c' : Configuration L) → IsStep app c (Adopt i from) c' → Places c b c' i
    adopts_now c' step =
        along c c' (record { graph_is = refl; others = λ k at other. refl; all_true = next.all_true }) step

    halts : (m : Configuration L) (f : StepRefusal) → m.graph ≡ c.graph
        → Adopts c.graph (node_bound c.graph) (tree_of m) i from → IsRefused app m (Adopt i from) f → ⊥
    halts m f same on refused =
        let P : Graph → Type 0 = λ g. IsNode g i in
        let Q : Graph → Type 0 = λ g. AreLinked g i from in
        let R : Graph → Type 0 = λ g. Adopts g (node_bound g) (tree_of m) i from in
        adopt_rests app m i from f refused (subst P (sym same) next.node) (subst Q (sym same) linked)
        (subst R (sym same) on)

    module _ (m : Configuration L) (claimed_it : IsStep app c (Claim i) m) where
      abbrev claim : Moves c m i (claimed i)
      claim = claim_moves app c m i claimed_it

      pub claim_adopted : (c' : Configuration L) → IsStep app m (Adopt i from) c' → Places c b c' i
      claim_adopted c' step =
          along m c' (record {
            graph_is = claim.graph;
            others = claim.changes.others;
            all_true = none_false c.graph graph (node_bound c.graph) (top_of b) (far_of b) led (tree_of c) i next.node
                next.all_true (tree_of m) (claimed i) claim.changes
                (claimed_true c.graph graph (node_bound c.graph) (top_of b) (far_of b) led (tree_of m) i next.node
                claim.changes.here)
                (λ own. absurd (below (sym own)));
          }) step

      pub claim_stuck : (f : StepRefusal) → IsRefused app m (Adopt i from) f → ⊥
      claim_stuck f =
          halts m f claim.graph
          (claim_adopts c.graph graph (node_bound c.graph) (top_of b) (far_of b) led (tree_of c) i next.node next.all_true
          from linked nearer from_placed.root from_placed.dist (tree_of m) (claimed i) claim.changes refl)

    module _ (f : StepRefusal) (no_adopt : IsRefused app c (Adopt i from) f) where
      known : ((tree_of c i).root ≡ top_of b i) × ((tree_of c i).dist ≡ far_of b i)
      known = knows c.graph graph (node_bound c.graph) (top_of b) (far_of b) led (tree_of c) i next.node next.all_true
          from linked nearer from_placed.root from_placed.dist (adopt_rests app c i from f no_adopt next.node linked)

      pub rests_below : (h k : StepRefusal) → IsRefused app c (Claim i) h → IsRefused app c (Follow i) k
          → (c' : Configuration L) → c' ≡ c → Places c b c' i
      rests_below h k no_claim no_follow c' same =
          let P : Configuration L → Type 0 = λ m. Places c b m i in
          subst P (sym same) (record {
            graph = refl;
            placed = father_right c.graph graph (node_bound c.graph) (top_of b) (far_of b) led (tree_of c) i next.node
                next.all_true known.0 known.1 (λ own. below (sym own))
                (refused_rests app c (Claim i) h refl no_claim next.node refl)
                (refused_rests app c (Follow i) k refl no_follow next.node refl);
            others = λ j at other. refl;
            all_true = next.all_true;
          })

      module _ (m : Configuration L) (followed_it : IsStep app c (Follow i) m) where
        abbrev father : ℕ
        father = (tree_of c i).father

        abbrev left : TreeRegs
        left = followed (node_bound c.graph) father (tree_of c father)

        abbrev follow : Moves c m i left × Follows c.graph (node_bound c.graph) (tree_of c) i
        follow = follow_moves app c m i followed_it

        tells : Follows c.graph (node_bound c.graph) (tree_of c) i → AreLinked c.graph i father
            × (((tree_of c i).root ≢ (tree_of c father).root) ⊎ ((tree_of c i).dist ≢ (tree_of c father).dist + 1))
        tells (follow_root j up short differs) =
            let P : ℕ → Type 0 = λ k. AreLinked c.graph i k in
            let Q : ℕ → Type 0 = λ k. (tree_of c i).root ≢ (tree_of c k).root in
            (subst P (sym up.named) up.linked, inl (subst Q (sym up.named) differs))
        tells (follow_dist j up short same differs) =
            let P : ℕ → Type 0 = λ k. AreLinked c.graph i k in
            let Q : ℕ → Type 0 = λ k. (tree_of c i).dist ≢ (tree_of c k).dist + 1 in
            (subst P (sym up.named) up.linked, inr (subst Q (sym up.named) differs))

        pub follow_adopted : (c' : Configuration L) → IsStep app m (Adopt i from) c' → Places c b c' i
        follow_adopted c' step =
            let to = tells follow.1 in
            along m c' (record {
              graph_is = follow.0.graph;
              others = follow.0.changes.others;
              all_true = none_false c.graph graph (node_bound c.graph) (top_of b) (far_of b) led (tree_of c) i next.node
                  next.all_true (tree_of m) left follow.0.changes
                  (follow_true c.graph graph (node_bound c.graph) (top_of b) (far_of b) led (tree_of c) i next.node
                  next.all_true from linked nearer from_placed.root from_placed.dist (tree_of m) left follow.0.changes
                  father to.0 refl)
                  (λ own. absurd (below (sym own)));
            }) step

        pub follow_stuck : (h : StepRefusal) → IsRefused app m (Adopt i from) h → ⊥
        follow_stuck h =
            let to = tells follow.1 in
            halts m h follow.0.graph
            (follow_adopts c.graph graph (node_bound c.graph) (top_of b) (far_of b) led (tree_of c) i next.node
            next.all_true from linked nearer from_placed.root from_placed.dist (tree_of m) left follow.0.changes
            father to.0 known.0 known.1 to.1 refl)
