-- What the rows of the tree table do on a node's view is what the event does to the tree's registers.
use Rattle.std.proofs.Common.{arith, ◌≡◌, ◌≢◌, ℕ, suc, ◌+◌, ◌<◌, ◌≤◌, Bool, true, false, cond, ◌&&◌, nat_eq, nat_lt}
use Rattle.std.proofs.Common.{nat_le, map, Some, None, Result, Ok, Err, refl, sym, ap, subst, ◌∙◌, ◌⊎◌, inl, inr}
use Rattle.std.proofs.Common.{true≢false}
use Rattle.std.proofs.lemmas.Bool.Decides.{eqb_tells, leb_tells}
use Rattle.topology.proofs.Membership.{has-Contains, has-filter}
use Rattle.topology.specs.Graph.{Graph, IsGraph, AreLinked, are_linked, neighbours_of, has}
use Rattle.tree_layer.specs.declared.regs.TreeRegs.{TreeRegs}
use Rattle.tree_layer.specs.TreeRows.{IsFather, Claims, claim_low, claim_self, claim_stray, claim_far, Follows}
use Rattle.tree_layer.specs.TreeRows.{follow_root, follow_dist, Adopts, adopt_root, adopt_short, claimed, followed}
use Rattle.tree_layer.specs.TreeRows.{adopted}
use Rattle.action_tables.specs.Nodes.{regs_of}
use Rattle.wave_layer.specs.declared.regs.WaveRegs.{WaveRegs}
use Rattle.reset_model.specs.declared.event.Event.TheVariants.{Claim, Follow, Adopt}
use Rattle.reset_model.specs.declared.plan.Fired.{Fired}
use Rattle.reset_model.specs.declared.plan.Fired.TheVariants.{Tree, Wave}
use Rattle.reset_model.specs.declared.step.StepRefusal.{StepRefusal}
use Rattle.reset_model.specs.declared.step.StepRefusal.TheVariants.{StrangeNode, StrangeNeighbour, NoSuchCase}
use Rattle.reset_model.specs.declared.step.StepRefusal.TheVariants.{WantsNeighbour, TakesNoNeighbour, Disagrees}
use Rattle.reset_model.specs.declared.step.StepRefusal.TheVariants.{NotEnabled, NoMemory}
use Rattle.reset_model.specs.LocalSteps.{rows_fired}
use Rattle.reset_model.proofs.Seen.{lookup-among}

-- an event that is enabled where E holds leaves these registers
abbrev pub IsTreeFired : Result Fired StepRefusal → Type 0 → TreeRegs → Type 0
IsTreeFired (Ok (Tree own)) E regs = E × (own ≡ regs)
IsTreeFired (Ok (Wave move)) E regs = ⊥
IsTreeFired (Err StrangeNode) E regs = ⊥
IsTreeFired (Err StrangeNeighbour) E regs = ⊥
IsTreeFired (Err NoSuchCase) E regs = ⊥
IsTreeFired (Err WantsNeighbour) E regs = ⊥
IsTreeFired (Err TakesNoNeighbour) E regs = ⊥
IsTreeFired (Err (Disagrees j)) E regs = ⊥
IsTreeFired (Err NotEnabled) E regs = E → ⊥
IsTreeFired (Err NoMemory) E regs = ⊥

abbrev Eq : ℕ → ℕ → Type 0
Eq a b = ((nat_eq a b ≡ true) × (a ≡ b)) ⊎ ((nat_eq a b ≡ false) × (a ≢ b))

abbrev Lt : ℕ → ℕ → Type 0
Lt a b = ((nat_lt a b ≡ true) × (suc a ≤ b)) ⊎ ((nat_lt a b ≡ false) × (b < suc a))

abbrev Le : ℕ → ℕ → Type 0
Le a b = ((nat_le a b ≡ true) × (a ≤ b)) ⊎ ((nat_le a b ≡ false) × (b < a))

module _ (g : Graph) (K m : ℕ) (t : ℕ → TreeRegs) (w : ℕ → WaveRegs) (graph : IsGraph g) where
  -- what a node's view has of another node: its registers, where they are linked
  pub regs_of-linked : (i j : ℕ)
      → regs_of j (map (λ k. (k, t k)) (neighbours_of g i)) ≡ cond (are_linked g i j) (Some (t j)) None
  regs_of-linked i j =
      lookup-among t (neighbours_of g i) j
      ∙ ap (λ b. cond b (Some (t j)) None) (has-filter (are_linked g i) g.ids j ∙ both (are_linked g i j) refl)
    where
      both : (b : Bool) → are_linked g i j ≡ b → (are_linked g i j && has g.ids j) ≡ are_linked g i j
      both true linked = rw linked
          (has-Contains g.ids j (graph.within j (graph.ends j i (graph.symmetric j i ∙ linked))))
      both false linked = rw linked refl

  pub near_some : (i j : ℕ) → AreLinked g i j → regs_of j (map (λ k. (k, t k)) (neighbours_of g i)) ≡ Some (t j)
  near_some i j linked = regs_of-linked i j ∙ ap (λ b. cond b (Some (t j)) None) linked

  near_none : (i j : ℕ) → are_linked g i j ≡ false → regs_of j (map (λ k. (k, t k)) (neighbours_of g i)) ≡ None
  near_none i j linked = regs_of-linked i j ∙ ap (λ b. cond b (Some (t j)) None) linked

  far_tells : (i : ℕ) → Lt (t i).dist K
  far_tells i = leb_tells (suc (t i).dist) K

  pub claim_is : (i : ℕ) → IsTreeFired (rows_fired g K m t w (Claim i)) (Claims g K t i) (claimed i)
  claim_is i = low (leb_tells (suc (t i).root) i)
    where
      IsClaimed : Type 0
      IsClaimed = IsTreeFired (rows_fired g K m t w (Claim i)) (Claims g K t i) (claimed i)

      -- a node that is its own father has a root of its own at distance 0
      rooted : nat_lt (t i).root i ≡ false → i ≤ (t i).root → (t i).father ≡ i → nat_eq (t i).father i ≡ true
          → Eq (t i).root i → Eq (t i).dist 0 → Le K (t i).dist → IsClaimed
      rooted low high named own (inr r) d far = rw (low, own, r.0) (claim_self named (inl r.1), refl)
      rooted low high named own (inl r) (inr d) far = rw (low, own, r.0, d.0) (claim_self named (inr d.1), refl)
      rooted low high named own (inl r) (inl d) (inl far) = rw (low, own, r.0, d.0, far.0) (claim_far far.1, refl)
      rooted low high named own (inl r) (inl d) (inr far) = rw (low, own, r.0, d.0, far.0) rests
        where
          rests : Claims g K t i → ⊥
          rests (claim_low below) = absurd (omega (arith, below, high))
          rests (claim_self _ (inl other)) = other r.1
          rests (claim_self _ (inr away)) = away d.1
          rests (claim_stray other _) = other named
          rests (claim_far beyond) = absurd (omega (arith, beyond, far.1))

      -- another node has a neighbour as its father
      led : nat_lt (t i).root i ≡ false → i ≤ (t i).root → (t i).father ≢ i → nat_eq (t i).father i ≡ false → (b : Bool)
          → are_linked g i (t i).father ≡ b → Le K (t i).dist → IsClaimed
      led low high other own false stray far =
          rw (low, own, near_none i (t i).father stray)
          (claim_stray other (λ linked. true≢false (sym linked ∙ stray)), refl)
      led low high other own true linked (inl far) =
          rw (low, own, near_some i (t i).father linked, far.0) (claim_far far.1, refl)
      led low high other own true linked (inr far) = rw (low, own, near_some i (t i).father linked, far.0) rests
        where
          rests : Claims g K t i → ⊥
          rests (claim_low below) = absurd (omega (arith, below, high))
          rests (claim_self named _) = other named
          rests (claim_stray _ stray) = stray linked
          rests (claim_far beyond) = absurd (omega (arith, beyond, far.1))

      high_root : nat_lt (t i).root i ≡ false → i ≤ (t i).root → Eq (t i).father i → IsClaimed
      high_root low high (inl own) =
          rooted low high own.1 own.0 (eqb_tells (t i).root i) (eqb_tells (t i).dist 0) (leb_tells K (t i).dist)
      high_root low high (inr own) =
          led low high own.1 own.0 (are_linked g i (t i).father) refl (leb_tells K (t i).dist)

      low : Lt (t i).root i → IsClaimed
      low (inl below) = rw below.0 (claim_low below.1, refl)
      low (inr high) = high_root high.0 (omega (arith, high.1)) (eqb_tells (t i).father i)

  pub follow_is : (i : ℕ)
      → IsTreeFired (rows_fired g K m t w (Follow i)) (Follows g K t i) (followed K (t i).father (t (t i).father))
  follow_is i = led (are_linked g i (t i).father) refl
    where
      IsFollowed : Type 0
      IsFollowed =
          IsTreeFired (rows_fired g K m t w (Follow i)) (Follows g K t i) (followed K (t i).father (t (t i).father))

      same : (j : ℕ) → IsFather g t i j → j ≡ (t i).father
      same j father = sym father.named

      up : AreLinked g i (t i).father → Lt (t i).dist K → Eq (t i).root (t (t i).father).root
          → Eq (t i).dist ((t (t i).father).dist + 1) → IsFollowed
      up linked (inr far) r d = rw (near_some i (t i).father linked, far.0) rests
        where
          rests : Follows g K t i → ⊥
          rests (follow_root j father near _) = absurd (omega (arith, near, far.1))
          rests (follow_dist j father near _ _) = absurd (omega (arith, near, far.1))
      up linked (inl far) (inr r) d =
          rw (near_some i (t i).father linked, far.0, r.0)
          (follow_root (t i).father (record { named = refl; linked = linked }) far.1 r.1, refl)
      up linked (inl far) (inl r) (inr d) =
          rw (near_some i (t i).father linked, far.0, r.0, d.0)
          (follow_dist (t i).father (record { named = refl; linked = linked }) far.1 r.1 d.1, refl)
      up linked (inl far) (inl r) (inl d) = rw (near_some i (t i).father linked, far.0, r.0, d.0) rests
        where
          rests : Follows g K t i → ⊥
          rests (follow_root j father near other) = other (r.1 ∙ ap (λ k. (t k).root) (sym (same j father)))
          rests (follow_dist j father near root other) = other (d.1 ∙ ap (λ k. (t k).dist + 1) (sym (same j father)))

      led : (b : Bool) → are_linked g i (t i).father ≡ b → IsFollowed
      led true linked = up linked (far_tells i) (eqb_tells _ _) (eqb_tells _ _)
      led false stray = rw (near_none i (t i).father stray) rests
        where
          none : (j : ℕ) → IsFather g t i j → ⊥
          none j father =
              true≢false
              (sym (let P : ℕ → Type 0 = λ k. AreLinked g i k in subst P (same j father) father.linked) ∙ stray)

          rests : Follows g K t i → ⊥
          rests (follow_root j father _ _) = none j father
          rests (follow_dist j father _ _ _) = none j father

  pub adopt_is : (i j : ℕ) → AreLinked g i j
      → IsTreeFired (rows_fired g K m t w (Adopt i j)) (Adopts g K t i j) (adopted j (t j))
  adopt_is i j linked =
      at (far_tells j) (leb_tells (suc (t i).root) (t j).root) (eqb_tells (t i).root (t j).root)
      (leb_tells (suc ((t j).dist + 1)) (t i).dist)
    where
      at : Lt (t j).dist K → Lt (t i).root (t j).root → Eq (t i).root (t j).root → Lt ((t j).dist + 1) (t i).dist
          → IsTreeFired (rows_fired g K m t w (Adopt i j)) (Adopts g K t i j) (adopted j (t j))
      at (inl near) (inl higher) r s =
          rw (near_some i j linked, near.0, higher.0) (adopt_root linked near.1 higher.1, refl)
      at (inl near) (inr higher) (inl r) (inl s) =
          rw (near_some i j linked, near.0, higher.0, r.0, s.0) (adopt_short linked near.1 r.1 s.1, refl)
      at (inl near) (inr higher) (inl r) (inr s) = rw (near_some i j linked, near.0, higher.0, r.0, s.0) rests
        where
          rests : Adopts g K t i j → ⊥
          rests (adopt_root _ _ above) = absurd (omega (arith, above, higher.1))
          rests (adopt_short _ _ _ shorter) = absurd (omega (arith, shorter, s.1))
      at (inl near) (inr higher) (inr r) s = rw (near_some i j linked, near.0, higher.0, r.0) rests
        where
          rests : Adopts g K t i j → ⊥
          rests (adopt_root _ _ above) = absurd (omega (arith, above, higher.1))
          rests (adopt_short _ _ root _) = r.1 root
      at (inr near) higher r s = rw (near_some i j linked, near.0) rests
        where
          rests : Adopts g K t i j → ⊥
          rests (adopt_root _ below _) = absurd (omega (arith, below, near.1))
          rests (adopt_short _ below _ _) = absurd (omega (arith, below, near.1))
