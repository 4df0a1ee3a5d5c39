-- What the rows of the wave table do on a node's view is what the event does to the wave's registers.
use Rattle.std.proofs.Common.{◌≡◌, ℕ, Bool, true, false, cond, nat_eq, List, map, Some, None, Result, Ok, Err}
use Rattle.std.proofs.Common.{refl, sym, ap, subst, ◌∙◌, ◌⊎◌, inl, inr, ⊎_elim, true≢false}
use Rattle.std.proofs.lemmas.Bool.{eqb-true, eq-eqb}
use Rattle.topology.specs.Graph.{Graph, IsGraph, has}
use Rattle.tree_layer.specs.declared.regs.TreeRegs.{TreeRegs}
use Rattle.wave_layer.specs.declared.regs.WaveRegs.{WaveRegs}
use Rattle.wave_layer.specs.declared.regs.Phase.{Phase}
use Rattle.wave_layer.specs.declared.regs.Phase.TheVariants.{Normal, Initiate, Reset}
use Rattle.action_tables.specs.Nodes.{regs_of}
use Rattle.wave_layer.specs.WaveTable.{is_reset, father_regs, children_done, is_done}
use Rattle.wave_layer.specs.Sessions.{next_session}
use Rattle.reset_model.specs.declared.event.Event.{Event}
use Rattle.reset_model.specs.declared.event.Event.TheVariants.{Claim, Follow, Adopt, Request, Relay, Open, Join, Finish}
use Rattle.reset_model.specs.declared.event.Event.TheVariants.{Mend, Act}
use Rattle.reset_model.specs.declared.step.StepRefusal.{StepRefusal}
use Rattle.reset_model.specs.declared.step.StepRefusal.TheVariants.{StrangeNode, StrangeNeighbour, NoSuchCase}
use Rattle.reset_model.specs.declared.step.StepRefusal.TheVariants.{WantsNeighbour, TakesNoNeighbour, Disagrees}
use Rattle.reset_model.specs.declared.step.StepRefusal.TheVariants.{NotEnabled, NoMemory}
use Rattle.tree_layer.specs.TreeRows.{IsFather}
use Rattle.reset_model.specs.declared.plan.Fired.{Fired}
use Rattle.reset_model.specs.declared.plan.Fired.TheVariants as fired
use Rattle.reset_model.specs.Steps.{join_normal, join_asked, mend_reset, mend_number, mend_both, mend_late, IsEnabled}
use Rattle.reset_model.specs.Steps.{Joins, Finishes, Mends, wave_effect}
use Rattle.reset_model.specs.LocalSteps.{father_seen, children_of, rows_fired}
use Rattle.reset_model.proofs.WaveRows.{IsWaveFired, IsInvited, IsTorn, Contradict, one_reset, other_number, both_reset}
use Rattle.reset_model.proofs.WaveRows.{too_late, request_fired, relay_fired, relay_fired-stranger, open_fired}
use Rattle.reset_model.proofs.WaveRows.{join_fired, finish_fired, mend_fired}
use Rattle.reset_model.proofs.Seen.{father_seen-itself, father_seen-IsFather, IsFather-father_seen, is_root-father_seen}
use Rattle.reset_model.proofs.Seen.{itself-father_seen, lookup-among, children_done-each, each-children_done}
use Rattle.reset_model.proofs.Seen.{IsFather-is_child, is_child-IsFather}

-- what was fired, under other names of its parts
fired_as : (r : Result Fired StepRefusal) (d : Bool) {E E' : Type 0} {regs regs' : WaveRegs} {b b' : Bool}
    → IsWaveFired r E regs b d → (E → E') → (E' → E) → (E → regs ≡ regs') → b ≡ b' → IsWaveFired r E' regs' b' d
fired_as (Ok (fired.Tree regs)) d h there back same flag = h
fired_as (Ok (fired.Wave move)) d h there back same flag = (there h.0, h.1 ∙ same h.0, h.2 ∙ flag, h.3)
fired_as (Err NotEnabled) d h there back same flag = λ e. h (back e)
fired_as (Err StrangeNode) d h there back same flag = h
fired_as (Err StrangeNeighbour) d h there back same flag = h
fired_as (Err NoSuchCase) d h there back same flag = h
fired_as (Err WantsNeighbour) d h there back same flag = h
fired_as (Err TakesNoNeighbour) d h there back same flag = h
fired_as (Err (Disagrees j)) d h there back same flag = h
fired_as (Err NoMemory) d h there back same flag = h

-- whether the event completes a reset
abbrev pub completes_of : (ℕ → TreeRegs) → Event → Bool
completes_of t (Claim i) = false
completes_of t (Follow i) = false
completes_of t (Adopt i j) = false
completes_of t (Request i) = false
completes_of t (Relay i c) = false
completes_of t (Open i) = false
completes_of t (Join i) = false
completes_of t (Finish i) = nat_eq (t i).father i
completes_of t (Mend i) = false
completes_of t (Act i case with) = false

-- whether it restarts the local state
abbrev pub restarts_of : Event → Bool
restarts_of (Claim i) = false
restarts_of (Follow i) = false
restarts_of (Adopt i j) = false
restarts_of (Request i) = false
restarts_of (Relay i c) = false
restarts_of (Open i) = true
restarts_of (Join i) = true
restarts_of (Finish i) = false
restarts_of (Mend i) = false
restarts_of (Act i case with) = false

awake_phase : (p : Phase) → is_reset p ≡ false → (p ≡ Normal) ⊎ (p ≡ Initiate)
awake_phase Normal is = inl refl
awake_phase Initiate is = inr refl
awake_phase Reset is = absurd (true≢false is)

module _ (g : Graph) (K m : ℕ) (t : ℕ → TreeRegs) (w : ℕ → WaveRegs) (graph : IsGraph g) where
  abbrev fires : Event → Result Fired StepRefusal
  fires e = rows_fired g K m t w e

  abbrev children : ℕ → List (ℕ × WaveRegs)
  children i = map (λ c. (c, w c)) (children_of g t i)

  abbrev pub FiresWave : Event → Type 0
  FiresWave e =
      IsWaveFired (fires e) (IsEnabled g K m t w e) (wave_effect m t w e) (completes_of t e) (restarts_of e)

  mended : {i : ℕ} (j : ℕ) → IsFather g t i j → Contradict m (w i).phase (w i).session (w j) → Mends g m t w i
  mended j father (one_reset above own) = mend_reset j father above own
  mended j father (other_number above own number) = mend_number j father above own number
  mended j father (both_reset above own number) = mend_both j father above own number
  mended j father (too_late above own number next) = mend_late j father above own number next

  parts : {c s : ℕ} (b : Bool) → is_reset (w c).phase ≡ b → is_done s (w c) ≡ true
      → (is_reset (w c).phase ≡ false) × ((w c).session ≡ s)
  parts true is done = absurd (true≢false (sym (rw is at done)))
  parts false is done = (is, eqb-true _ _ (rw is at done))

  pub relay_is : (i c : ℕ) → (b : Bool) → has (children_of g t i) c ≡ b → FiresWave (Relay i c)
  relay_is i c true among =
      let regs : regs_of c (children i) ≡ Some (record { phase = (w c).phase; session = (w c).session }) =
      lookup-among w (children_of g t i) c ∙ ap (λ b. cond b (Some (w c)) None) among in
      fired_as (fires (Relay i c)) false
      (relay_fired m (w i).phase (w i).session (father_seen g t w i) (children i) c (w c).phase (w c).session regs)
      (λ h. (h.0, is_child-IsFather g t i c graph among, h.1)) (λ h. (h.0, h.2)) (λ _. refl) refl
  relay_is i c false among =
      relay_fired-stranger m (w i).phase (w i).session (father_seen g t w i) (children i) c _ _
      (lookup-among w (children_of g t i) c ∙ ap (λ b. cond b (Some (w c)) None) among)
      (λ h. absurd (true≢false (sym (IsFather-is_child g t i c graph h.1) ∙ among)))

  pub join_is : (i : ℕ) → FiresWave (Join i)
  join_is i =
      fired_as (fires (Join i)) true (join_fired m (w i).phase (w i).session (father_seen g t w i) (children i))
      there back same refl
    where
      there : IsInvited m (w i).phase (w i).session (father_seen g t w i) → Joins g m t w i
      there h =
          let seen = IsFather-father_seen g t w i h.up h.father in
          let reset : is_reset (w (t i).father).phase ≡ true = ap (λ r. is_reset r.phase) (sym seen.1) ∙ h.reset in
          let next : (w (t i).father).session ≡ next_session m (w i).session =
          ap (λ r. r.session) (sym seen.1) ∙ h.next in
          ⊎_elim (λ p. join_normal _ seen.0 reset p next) (λ p. join_asked _ seen.0 reset p next)
          (awake_phase _ h.awake)

      back : Joins g m t w i → IsInvited m (w i).phase (w i).session (father_seen g t w i)
      back (join_normal j father reset p next) =
          record {
            up = w j;
            father = father_seen-IsFather g t w i graph j father;
            reset = reset;
            awake = ap is_reset p;
            next = next;
          }
      back (join_asked j father reset p next) =
          record {
            up = w j;
            father = father_seen-IsFather g t w i graph j father;
            reset = reset;
            awake = ap is_reset p;
            next = next;
          }

      same : IsInvited m (w i).phase (w i).session (father_seen g t w i)
          → record { phase = Reset; session = (father_regs (w i) (father_seen g t w i)).session }
          ≡ wave_effect m t w (Join i)
      same h =
          let after : WaveRegs → WaveRegs = λ r. record { phase = Reset; session = r.session } in
          ap (λ f. after (father_regs (w i) f)) h.father ∙ ap after (IsFather-father_seen g t w i h.up h.father).1

  pub finish_is : (i : ℕ) → FiresWave (Finish i)
  finish_is i =
      fired_as (fires (Finish i)) false
      (finish_fired m (w i).phase (w i).session (father_seen g t w i) (children i) _ refl) there back (λ _. refl)
      (is_root-father_seen g t w i)
    where
      there : ((w i).phase ≡ Reset) × (children_done (w i).session (children i) ≡ true) → Finishes g t w i
      there h =
          record {
            reset = h.0;
            children =
                λ c father. parts (is_reset (w c).phase) refl
                (each-children_done w (w i).session (children_of g t i) h.1 c (IsFather-is_child g t i c graph father));
          }

      back : Finishes g t w i → ((w i).phase ≡ Reset) × (children_done (w i).session (children i) ≡ true)
      back h = (
        h.reset,
        children_done-each w (w i).session (children_of g t i) (λ c among.
            let done = h.children c (is_child-IsFather g t i c graph among) in
            let number : nat_eq (w c).session (w i).session ≡ true = eq-eqb _ _ done.1 in
            let awake : is_reset (w c).phase ≡ false = done.0 in
            rw (awake, number) refl),
      )

  pub mend_is : (i : ℕ) → FiresWave (Mend i)
  mend_is i =
      fired_as (fires (Mend i)) false (mend_fired m (w i).phase (w i).session (father_seen g t w i) (children i))
      there back same refl
    where
      there : IsTorn m (w i).phase (w i).session (father_seen g t w i) → Mends g m t w i
      there h =
          let seen = IsFather-father_seen g t w i h.up h.father in
          mended (t i).father seen.0 (subst (Contradict m (w i).phase (w i).session) seen.1 h.contradict)

      back : Mends g m t w i → IsTorn m (w i).phase (w i).session (father_seen g t w i)
      back (mend_reset j father above own) =
          record { up = w j; father = father_seen-IsFather g t w i graph j father; contradict = one_reset above own }
      back (mend_number j father above own number) =
          record {
            up = w j;
            father = father_seen-IsFather g t w i graph j father;
            contradict = other_number above own number;
          }
      back (mend_both j father above own number) =
          record {
            up = w j;
            father = father_seen-IsFather g t w i graph j father;
            contradict = both_reset above own number;
          }
      back (mend_late j father above own number next) =
          record {
            up = w j;
            father = father_seen-IsFather g t w i graph j father;
            contradict = too_late above own number next;
          }

      same : IsTorn m (w i).phase (w i).session (father_seen g t w i)
          → father_regs (w i) (father_seen g t w i) ≡ w (t i).father
      same h = ap (father_regs (w i)) h.father ∙ (IsFather-father_seen g t w i h.up h.father).1

  pub request_is : (i : ℕ) → FiresWave (Request i)
  request_is i = request_fired m (w i).phase (w i).session (father_seen g t w i) (children i)

  pub open_is : (i : ℕ) → FiresWave (Open i)
  open_is i =
      fired_as (fires (Open i)) true
      (open_fired m (w i).phase (w i).session (father_seen g t w i) (children i))
      (λ h. (itself-father_seen g t w i h.0, h.1)) (λ h. (father_seen-itself g t w i h.0, h.1)) (λ _. refl) refl
