-- What a run from a sound configuration is on the abstract machine.
use Rattle.std.proofs.Common.{◌≡◌, ℕ, Bool, true, false, cond, List, [], ◌∷◌, ◌++◌, Option, refl, sym, subst}
use Rattle.action_tables.specs.Modulus.{IsModulus}
use Rattle.app_interface.specs.Application.{App}
use Rattle.topology.specs.Graph.{Graph, IsGraph, Changes, node_bound}
use Rattle.tree_layer.specs.declared.regs.TreeRegs.{TreeRegs}
use Rattle.wave_layer.specs.declared.regs.WaveRegs.{WaveRegs}
use Rattle.reset_model.specs.declared.event.Event.{Event}
use Rattle.reset_model.specs.declared.event.Event.TheVariants.{Claim, Follow, Adopt, Request, Relay, Open, Join, Finish}
use Rattle.reset_model.specs.declared.event.Event.TheVariants.{Mend, Act}
use Rattle.reset_model.specs.Configuration.{Configuration, tree_of, wave_of, local_of}
use Rattle.reset_model.specs.MachineSteps.{IsStep, IsActStep, row_step, act_step, local_effect}
use Rattle.reset_model.specs.Refinement.{AbstractStep, Do, IsAbstractRun, abstract_of, has_joined}
use Rattle.reset_model.specs.Refinement.{shadow_of}
use Rattle.reset_model.specs.Sound.{IsSound, claims, follows, adopts, mends}
use Rattle.reset_model.specs.Steps.{event_node, RegsStep}
use Rattle.reset_model.proofs.Abstractions.{abstract_at, acting, acting_apart, joining, nothing, opening, run_from}
use Rattle.reset_model.proofs.SoundSteps.{sound_rests}

-- a step keeps the graph
pub step_graph : {L : Type 0} (app : App L) (c c' : Configuration L) (e : Event) → IsStep app c e c'
    → c'.graph ≡ c.graph
step_graph app c c' e (row_step step) = step.graph
step_graph app c c' e (act_step i case with is step) = step.graph

-- ---- one step

module _ {L : Type 0} (app : App L) (c : Configuration L) (graph : IsGraph c.graph)
    (counted : IsModulus c.modulus) (sound : IsSound c) (ss : List AbstractStep) (v' : ℕ → L) where
  -- from these registers and local states on, the abstract machine goes to v'
  abbrev GoesOn : (ℕ → WaveRegs) → (ℕ → L) → Type 0
  GoesOn w l = IsAbstractRun app c.graph (node_bound c.graph) ss (abstract_at app c.graph graph w l) v'

  -- and from c it goes there by the shadow of the event first
  abbrev pub GoesFirst : Event → Type 0
  GoesFirst e = IsAbstractRun app c.graph (node_bound c.graph) (shadow_of c e ++ ss) (abstract_of app c) v'

  row_shadow : (e : Event) (t' : ℕ → TreeRegs) (w' : ℕ → WaveRegs) (l' : ℕ → L)
      → RegsStep c.graph (node_bound c.graph) c.modulus (tree_of c) (wave_of c) e t' w'
      → Changes c.graph (local_of app c) (event_node e) (local_effect app c.graph (local_of app c) e) l' → GoesOn w' l'
      → GoesFirst e
  row_shadow (Claim i) t' w' l' step locals on =
      absurd (sound_rests c.graph (node_bound c.graph) c.modulus (tree_of c) (wave_of c) (Claim i) step.node sound (claims i)
      step.enabled)
  row_shadow (Follow i) t' w' l' step locals on =
      absurd (sound_rests c.graph (node_bound c.graph) c.modulus (tree_of c) (wave_of c) (Follow i) step.node sound (follows i)
      step.enabled)
  row_shadow (Adopt i j) t' w' l' step locals on =
      absurd (sound_rests c.graph (node_bound c.graph) c.modulus (tree_of c) (wave_of c) (Adopt i j) step.node sound (adopts i j)
      step.enabled)
  row_shadow (Request i) t' w' l' step locals on =
      run_from app c.graph graph (node_bound c.graph) ss _ _ v'
      (nothing app c.graph graph (wave_of c) w' i _ (local_of app c) l' step.waves refl locals) on
  row_shadow (Relay i k) t' w' l' step locals on =
      run_from app c.graph graph (node_bound c.graph) ss _ _ v'
      (nothing app c.graph graph (wave_of c) w' i _ (local_of app c) l' step.waves refl locals) on
  row_shadow (Open i) t' w' l' step locals on = (
    abstract_at app c.graph graph w' l',
    opening app c.graph graph (node_bound c.graph) c.modulus counted (tree_of c) t'
        (wave_of c) w' sound i (local_of app c) l' locals step,
    on,
  )
  row_shadow (Join i) t' w' l' step locals on =
      run_from app c.graph graph (node_bound c.graph) ss _ _ v'
      (joining app c.graph graph (node_bound c.graph) c.modulus counted (tree_of c) t' (wave_of c) w' sound i (local_of app c) l'
      locals step) on
  row_shadow (Finish i) t' w' l' step locals on =
      run_from app c.graph graph (node_bound c.graph) ss _ _ v'
      (nothing app c.graph graph (wave_of c) w' i _ (local_of app c) l' step.waves refl locals) on
  row_shadow (Mend i) t' w' l' step locals on =
      absurd (sound_rests c.graph (node_bound c.graph) c.modulus (tree_of c) (wave_of c) (Mend i) step.node sound (mends i)
      step.enabled)
  row_shadow (Act i case with) t' w' l' step locals on = absurd step.enabled

  act_shadow : (i case : ℕ) (with : Option ℕ) (c' : Configuration L) → IsActStep app c i case with c'
      → GoesOn (wave_of c) (local_of app c') → GoesFirst (Act i case with)
  act_shadow i case with c' step on = at (has_joined c.graph (wave_of c) i) refl
    where
      at : (b : Bool) → has_joined c.graph (wave_of c) i ≡ b → GoesFirst (Act i case with)
      at true joined =
          let Goes : Bool → Type 0 =
          λ b. IsAbstractRun app c.graph (node_bound c.graph) (cond b (Do i case with ∷ []) [] ++ ss)
          (abstract_of app c) v' in
          subst Goes (sym joined) (
            abstract_at app c.graph graph (wave_of c) (local_of app c'),
            acting app c.graph graph
                (node_bound c.graph) (wave_of c) i case with (local_of app c) (local_of app c') step.locals joined,
            on,
          )
      at false apart =
          let Goes : Bool → Type 0 =
          λ b. IsAbstractRun app c.graph (node_bound c.graph) (cond b (Do i case with ∷ []) [] ++ ss)
          (abstract_of app c) v' in
          subst Goes (sym apart)
          (run_from app c.graph graph (node_bound c.graph) ss _ _ v'
          (acting_apart app c.graph graph (node_bound c.graph) (wave_of c) i case with (local_of app c)
          (local_of app c') step.locals apart) on)

  -- from the configuration after the step on, the abstract machine goes to v'
  abbrev pub GoesAfter : Configuration L → Type 0
  GoesAfter c' = IsAbstractRun app c'.graph (node_bound c'.graph) ss (abstract_of app c') v'

  pub step_shadow : (e : Event) (c' : Configuration L) → IsStep app c e c' → GoesAfter c' → GoesFirst e
  step_shadow e c' (row_step step) on =
      let Goes : Graph → Type 0 =
      λ g. IsAbstractRun app g (node_bound g) ss
      (λ i. cond (has_joined g (wave_of c') i) (local_of app c' i) (app.start g i)) v' in
      row_shadow e (tree_of c') (wave_of c') (local_of app c') step.regs step.locals (subst Goes step.graph on)
  step_shadow e c' (act_step i case with is step) on =
      let Goes : Graph → Type 0 =
      λ g. IsAbstractRun app g (node_bound g) ss
      (λ i. cond (has_joined g (wave_of c') i) (local_of app c' i) (app.start g i)) v' in
      let waves : wave_of c' ≡ wave_of c = rw (step.graph, step.waves) refl in
      let same : GoesOn (wave_of c) (local_of app c') =
      subst (λ w. GoesOn w (local_of app c')) waves (subst Goes step.graph on) in
      let First : Event → Type 0 = λ d. GoesFirst d in
      subst First (sym is) (act_shadow i case with c' step same)
