-- What steps are that are taken in turn from sound registers on.
use Rattle.std.proofs.Common.{◌≡◌, ℕ, ◌+◌, ◌<◌, ◌≤◌, zero, suc, true, false, cond, List, [], ◌∷◌, ◌++◌, length, All, Contains}
use Rattle.std.proofs.Common.{◌⊎◌, inl, inr, ⊎_elim, refl, sym, ap, subst, ◌∙◌, arith}
use Rattle.std.proofs.lemmas.Bool.{eq-eqb}
use Rattle.std.proofs.lemmas.List.Elements.{All-cons, All-nil}
use Rattle.action_tables.specs.Modulus.{IsModulus}
use Rattle.app_interface.specs.Application.{App}
use Rattle.app_interface.specs.Invariant.{Keeps, StartsByComponent}
use Rattle.topology.specs.Components.{component, IsComponent, leader}
use Rattle.topology.specs.Graph.{Graph, IsGraph, IsConnected, IsNode, IsReached, node_bound}
use Rattle.topology.proofs.Components.{component_is, reached_itself, same_leader}
use Rattle.tree_layer.specs.declared.regs.TreeRegs.{TreeRegs}
use Rattle.wave_layer.specs.declared.regs.WaveRegs.{WaveRegs}
use Rattle.reset_model.specs.declared.event.Event.{Event}
use Rattle.reset_model.specs.declared.event.Event.TheVariants.{Finish, Join, Open, Act}
use Rattle.reset_model.specs.declared.step.Reply.TheVariants.{Applied, Complete}
use Rattle.reset_model.specs.Completion.{JoinsOnce, is_join_at, is_open_at, times}
use Rattle.reset_model.specs.Configuration.{Configuration, local_of, tree_of, wave_of}
use Rattle.reset_model.specs.Headline.{Completes, Headline, Steps, Transition, events_of, shadow}
use Rattle.reset_model.specs.MachineSteps.{IsStep, row_step, act_step}
use Rattle.reset_model.specs.Refinement.{AbstractStep, Do, IsAbstractRun, abstract_of, has_joined, shadow_of}
use Rattle.reset_model.specs.Sound.{IsComplete, IsSound, Repairs}
use Rattle.reset_model.specs.SoundSteps.{HoldsAt}
use Rattle.reset_model.specs.Steps.{reply_of}
use Rattle.reset_model.proofs.JoinCounts.{RunCounts, finishing_counts, joined_number, joined_restarted, none_first}
use Rattle.reset_model.proofs.JoinCounts.{opening_counts, opens_now, step_counts, top_counts}
use Rattle.reset_model.proofs.AbstractInvariants.{ResetsIn, abstract_kept, abstract_reset}
use Rattle.reset_model.proofs.RunShadows.{step_graph, step_shadow}
use Rattle.reset_model.proofs.SoundConfigurations.{step_complete, step_quiet, step_sound}

-- ---- what steps keep

pub record AreKept {L : Type 0} (c c' : Configuration L) : Type 0 where
  pub graph : c'.graph ≡ c.graph
  pub modulus : IsModulus c'.modulus
  pub sound : IsSound c'

module _ {L : Type 0} (app : App L) where
  step_modulus : (c c' : Configuration L) (e : Event) → IsStep app c e c' → c'.modulus ≡ c.modulus
  step_modulus c c' e (row_step step) = step.modulus
  step_modulus c c' e (act_step i case with is step) = step.modulus

  pub step_kept : (c c' : Configuration L) (e : Event) → IsGraph c.graph → IsModulus c.modulus → IsSound c → IsStep app c e c'
      → AreKept c c'
  step_kept c c' e graph counted sound step = record {
    graph = step_graph app c c' e step;
    modulus = subst IsModulus (sym (step_modulus c c' e step)) counted;
    sound = step_sound app c c' e graph step sound;
  }

  pub steps_kept : (ss : List (Transition L)) (c c' : Configuration L) → IsGraph c.graph → IsModulus c.modulus → IsSound c
      → Steps app c ss c' → AreKept c c'
  steps_kept [] c c' graph counted sound steps =
      let Kept : Configuration L → Type 0 = λ k. AreKept c k in
      subst Kept (sym steps) (record { graph = refl; modulus = counted; sound = sound })
  steps_kept (s ∷ ss) c c' graph counted sound steps =
      let once = step_kept c s.after s.event graph counted sound steps.1 in
      let rest = steps_kept ss s.after c' (subst IsGraph (sym once.graph) graph) once.modulus once.sound steps.2 in
      record { graph = rest.graph ∙ once.graph; modulus = rest.modulus; sound = rest.sound }

  -- ---- what they are on the abstract machine

  pub steps_shadow : (ss : List (Transition L)) (c c' : Configuration L) → IsGraph c.graph → IsModulus c.modulus → IsSound c
      → Steps app c ss c'
      → IsAbstractRun app c.graph (node_bound c.graph) (shadow ss) (abstract_of app c) (abstract_of app c')
  steps_shadow [] c c' graph counted sound steps = λ i node. ap (λ k. abstract_of app k i) steps
  steps_shadow (s ∷ ss) c c' graph counted sound steps =
      let once = step_kept c s.after s.event graph counted sound steps.1 in
      let rest = steps_shadow ss s.after c' (subst IsGraph (sym once.graph) graph) once.modulus once.sound steps.2 in
      let Goes : Configuration L → Type 0 =
      λ k. IsAbstractRun app c.graph (node_bound c.graph) (shadow_of k s.event ++ shadow ss) (abstract_of app c)
      (abstract_of app c') in
      subst Goes (sym steps.0)
      (step_shadow app c graph counted sound (shadow ss) (abstract_of app c') s.event s.after steps.1 rest)

  -- ---- each step

  module _ (g : Graph) (graph : IsGraph g) (P : Transition L → Type 0)
      (each : (s : Transition L) → s.before.graph ≡ g → IsSound s.before → IsStep app s.before s.event s.after → P s) where
    -- what holds of each step from a sound configuration holds of each that was taken
    each_step : (ss : List (Transition L)) (c c' : Configuration L) → c.graph ≡ g → IsModulus c.modulus → IsSound c
        → Steps app c ss c' → All P ss
    each_step [] c c' on counted sound steps = All-nil P
    each_step (s ∷ ss) c c' on counted sound steps =
        let kept = step_kept c s.after s.event (subst IsGraph (sym on) graph) counted sound steps.1 in
        let Here : Configuration L → Type 0 = λ k. (k.graph ≡ g) × IsSound k × IsStep app k s.event s.after in
        let here : Here s.before = subst Here (sym steps.0) (on, sound, steps.1) in
        All-cons P s ss (each s here.0 here.1 here.2)
        (each_step ss s.after c' (kept.graph ∙ on) kept.modulus kept.sound steps.2)

  completion_told : (t : ℕ → TreeRegs) (w : ℕ → WaveRegs) (p : ℕ) → (t p).father ≡ p
      → reply_of t w (Finish p) ≡ Complete (w p).session
  completion_told t w p own = ap (λ b. cond b (Complete (w p).session) Applied) (eq-eqb (t p).father p own)

  completes_all : (g : Graph) → IsGraph g → (s : Transition L) → s.before.graph ≡ g → IsSound s.before
      → IsStep app s.before s.event s.after → (p : ℕ) → Completes s p
      → IsComplete s.after p (wave_of s.after p).session
  completes_all g graph s on sound step p is =
      let Goes : Event → Type 0 = λ e. IsStep app s.before e s.after in
      let all : IsComplete s.after p (wave_of s.before p).session =
      step_complete app s.before s.after (Finish p) (wave_of s.before p).session (subst IsGraph (sym on) graph)
      (subst Goes is.0 step) sound (completion_told (tree_of s.before) (wave_of s.before) p is.1) in
      subst (IsComplete s.after p) (sym (all p ([], refl)).1) all

  restarts_own : (g : Graph) (s : Transition L) → s.before.graph ≡ g → IsSound s.before
      → IsStep app s.before s.event s.after → (i : ℕ) → s.event ≡ Join i → local_of app s.after i ≡ app.start g i
  restarts_own g s on sound step i is =
      let Goes : Event → Type 0 = λ e. IsStep app s.before e s.after in
      joined_restarted app s.before s.after i (subst Goes is step) ∙ ap (λ h. app.start h i) on

  -- ---- from an opening to its completion

  -- steps are parted where their list is
  parted : (front back : List (Transition L)) (c c' : Configuration L) → Steps app c (front ++ back) c'
      → (m : Configuration L) × Steps app c front m × Steps app m back c'
  parted [] back c c' steps = (c, refl, steps)
  parted (s ∷ front) back c c' steps =
      let rest = parted front back s.after c' steps.2 in (rest.0, (steps.0, steps.1, rest.1), rest.2)

  module _ (p : ℕ) where
    steps_counts : (ss : List (Transition L)) (c c' : Configuration L) → IsGraph c.graph → IsModulus c.modulus → IsSound c
        → IsNode c.graph p → p ≡ leader c.graph p → Steps app c ss c' → times (is_open_at p) (events_of ss) ≡ 0
        → RunCounts app c c' p (events_of ss)
    steps_counts [] c c' graph counted sound top leads steps none =
        record {
          closed = λ i reached. refl;
          number =
              λ i reached. let same : joined_number c.graph (wave_of c') i ≡ joined_number c.graph (wave_of c) i =
              ap (λ k. joined_number c.graph (wave_of k) i) steps in omega (arith, same);
        }
    steps_counts (s ∷ ss) c c' graph counted sound top leads steps none =
        let m = s.after in
        let split = none_first app (is_open_at p) s.event (events_of ss) none in
        let kept = step_kept c m s.event graph counted sound steps.1 in
        let first = step_counts app c m s.event p graph counted sound top leads steps.1 split.0 in
        let On : Graph → Type 0 = λ g. IsNode g p × (p ≡ leader g p) in
        let there : On m.graph = subst On (sym kept.graph) (top, leads) in
        let rest =
        steps_counts ss m c' (subst IsGraph (sym kept.graph) graph) kept.modulus kept.sound there.0 there.1 steps.2
        split.1 in
        let Closed : Graph → Type 0 = λ g. (i : ℕ) → IsReached g p i → times (is_open_at i) (events_of ss) ≡ 0 in
        let closed = subst Closed kept.graph rest.closed in
        let Numbers : Graph → Type 0 =
        λ g. (i : ℕ) → IsReached g p i
        → joined_number g (wave_of c') i ≡ times (is_join_at i) (events_of ss) + joined_number g (wave_of m) i in
        let number = subst Numbers kept.graph rest.number in
        record {
          closed = λ i reached. let now : opens_now i s.event ≡ 0 = ap (λ b. cond b 1 0) (first.closed i reached)
              in omega (arith, now, closed i reached);
          number = λ i reached. omega (arith, number i reached, first.number i reached);
        }

    pub joins_between : (between : List (Transition L)) (c c1 c2 c3 : Configuration L) → IsGraph c.graph → IsModulus c.modulus
        → IsSound c → IsStep app c (Open p) c1 → Steps app c1 between c2 → times (is_open_at p) (events_of between) ≡ 0
        → IsStep app c2 (Finish p) c3 → (tree_of c2 p).father ≡ p → JoinsOnce c.graph p (events_of between)
    joins_between between c c1 c2 c3 graph counted sound opens steps none finishes own =
        let Numbers : Graph → Type 0 =
        λ g. (i : ℕ) → IsReached g p i
        → joined_number g (wave_of c2) i ≡ times (is_join_at i) (events_of between) + joined_number g (wave_of c1) i in
        let Closed : Graph → Type 0 = λ g. (i : ℕ) → IsReached g p i → times (is_open_at i) (events_of between) ≡ 0 in
        let Joined : Graph → Type 0 =
        λ g. IsNode g p × (p ≡ leader g p) × ((i : ℕ) → IsReached g p i → joined_number g (wave_of c2) i ≡ 1) in
        let opened = step_kept c c1 (Open p) graph counted sound opens in
        let graph1 = subst IsGraph (sym opened.graph) graph in
        let went = steps_kept between c1 c2 graph1 opened.modulus opened.sound steps in
        let same : c2.graph ≡ c.graph = went.graph ∙ opened.graph in
        let first = opening_counts app c c1 p graph counted sound opens in
        let last : Joined c.graph =
        subst Joined same
        (finishing_counts app c2 c3 p (wave_of c2 p).session (subst IsGraph (sym same) graph) went.sound finishes
        (completion_told (tree_of c2) (wave_of c2) p own)) in
        let On : Graph → Type 0 = λ g. IsNode g p × (p ≡ leader g p) in
        let there : On c1.graph = subst On (sym opened.graph) (last.0, last.1) in
        let counts = steps_counts between c1 c2 graph1 opened.modulus opened.sound there.0 there.1 steps none in
        let number : Numbers c.graph = subst Numbers opened.graph counts.number in
        let closed : Closed c.graph = subst Closed opened.graph counts.closed in
        record {
          opens = closed;
          leader = omega
              (arith, number p ([], refl), last.2 p ([], refl), top_counts app c.graph (wave_of c1) p last.1);
          joins = λ i reached other. omega (arith, number i reached, last.2 i reached, first.2 i reached other);
        }

    -- an opening in the component of a node that completes is at that node
    opened_there : (between : List (Transition L)) (o : ℕ) (c c1 c2 c3 : Configuration L) → IsGraph c.graph
        → IsModulus c.modulus → IsSound c → IsStep app c (Open o) c1 → Steps app c1 between c2
        → IsStep app c2 (Finish p) c3 → (tree_of c2 p).father ≡ p → IsReached c.graph p o → o ≡ p
    opened_there between o c c1 c2 c3 graph counted sound opens steps finishes own within =
        let Joined : Graph → Type 0 =
        λ g. IsNode g p × (p ≡ leader g p) × ((i : ℕ) → IsReached g p i → joined_number g (wave_of c2) i ≡ 1) in
        let opened = step_kept c c1 (Open o) graph counted sound opens in
        let went = steps_kept between c1 c2 (subst IsGraph (sym opened.graph) graph) opened.modulus opened.sound steps in
        let same : c2.graph ≡ c.graph = went.graph ∙ opened.graph in
        let first = opening_counts app c c1 o graph counted sound opens in
        let last : Joined c.graph =
        subst Joined same
        (finishing_counts app c2 c3 p (wave_of c2 p).session (subst IsGraph (sym same) graph) went.sound finishes
        (completion_told (tree_of c2) (wave_of c2) p own)) in
        first.1 ∙ same_leader c.graph p o graph last.0 within ∙ sym last.1

    opened_once : (before between rest : List (Transition L)) (opens completes : Transition L) (o : ℕ) (c c' : Configuration L)
        → IsGraph c.graph → IsModulus c.modulus → IsSound c
        → Steps app c (before ++ opens ∷ (between ++ completes ∷ rest)) c'
        → opens.event ≡ Open o → IsReached c.graph p o → Completes completes p
        → times (is_open_at p) (events_of between) ≡ 0 → (o ≡ p) × JoinsOnce c.graph p (events_of between)
    opened_once before between rest opens completes o c c' graph counted sound steps opening within completing none =
        let first = parted before (opens ∷ (between ++ completes ∷ rest)) c c' steps in
        let kept = steps_kept before c first.0 graph counted sound first.1 in
        let here = subst IsGraph (sym kept.graph) graph in
        let second = parted between (completes ∷ rest) opens.after c' first.2.2 in
        let Opens : Event → Type 0 = λ e. IsStep app first.0 e opens.after in
        let Finishes : Event → Type 0 = λ e. IsStep app second.0 e completes.after in
        let opened : Opens (Open o) = subst Opens opening first.2.1 in
        let finished : Finishes (Finish p) = subst Finishes completing.0 second.2.1 in
        let own : (tree_of second.0 p).father ≡ p =
        subst (λ (k : Configuration L). (tree_of k p).father ≡ p) second.2.0 completing.1 in
        let at : o ≡ p =
        opened_there between o first.0 opens.after second.0 completes.after here kept.modulus kept.sound opened second.1
        finished own (subst (λ g. IsReached g p o) (sym kept.graph) within) in
        let Once : Graph → Type 0 = λ g. JoinsOnce g p (events_of between) in (
          at,
          subst Once kept.graph
              (joins_between between first.0 opens.after second.0 completes.after here kept.modulus kept.sound
              (subst (λ k. Opens (Open k)) at opened) second.1 none finished own),
        )

-- ---- the invariant

-- an event of a list is its first or a later one
pub first_or_later : {X : Type 0} (x z : X) (xs : List X) → Contains (x ∷ xs) z → (x ≡ z) ⊎ Contains xs z
first_or_later x z xs (zero, low, is) = inl is
first_or_later x z xs (suc k, low, is) = inr (k, omega (arith, low), is)

-- where a session was opened at a node of the component, the nodes there were reset
module _ {L : Type 0} (g : Graph) (i : ℕ) where
  resets_later : (c : Configuration L) (e : Event) (ts : List AbstractStep) → ResetsIn g i ts
      → ResetsIn g i (shadow_of c e ++ ts)
  resets_later c (Open k) ts later = inr later
  resets_later c (Act k case with) ts later =
      elim (has_joined c.graph (wave_of c) k) as (λ b. ResetsIn g i (cond b (Do k case with ∷ []) [] ++ ts))
      [ true ↦ later | false ↦ later ]
  resets_later c e ts later = later

  opening_resets : (o : ℕ) → IsReached g i o → (ss : List (Transition L)) → Contains (events_of ss) (Open o)
      → ResetsIn g i (shadow ss)
  opening_resets o reached [] (k, low, is) = absurd (omega (arith, low))
  opening_resets o reached (s ∷ ss) opened =
      let Resets : Event → Type 0 = λ e. ResetsIn g i (shadow_of s.before e ++ shadow ss) in
      ⊎_elim
      (λ (here : s.event ≡ Open o). subst Resets (sym here) (inl reached))
      (λ later. resets_later s.before s.event (shadow ss) (opening_resets o reached ss later))
      (first_or_later s.event (Open o) (events_of ss) opened)

module _ {L : Type 0} (app : App L) (Inv : Graph → (ℕ → L) → Type 0) (starts : StartsByComponent app)
    (keeps : (g : Graph) (bound : ℕ) → IsGraph g → IsConnected g → 0 < length g.nodes → length g.ids ≤ bound
    → Keeps app g bound (Inv g))
    (c c' : Configuration L) (ss : List (Transition L)) (graph : IsGraph c.graph)
    (counted : IsModulus c.modulus) (sound : IsSound c) (steps : Steps app c ss c') where
  module _ (i : ℕ) (node : IsNode c.graph i) where
    part : IsComponent c.graph i (component c.graph i)
    part = component_is c.graph i graph node

    here : Keeps app (component c.graph i) (node_bound c.graph) (Inv (component c.graph i))
    here =
        let itself = (part.same_nodes i).1 (reached_itself c.graph i) in
        keeps (component c.graph i) (node_bound c.graph) part.as_graph part.connected (omega (arith, itself.1))
        (omega (arith, ap length part.ids))

    on_graph_of_end : Inv (component c.graph i) (abstract_of app c') → HoldsAt app Inv c' i
    on_graph_of_end inv =
        let Holds : Graph → Type 0 = λ g. Inv (component g i) (abstract_of app c') in
        subst Holds (sym (steps_kept app ss c c' graph counted sound steps).graph) inv

    invariant_holds : HoldsAt app Inv c i ⊎ ((o : ℕ) × IsReached c.graph i o × Contains (events_of ss) (Open o))
        → HoldsAt app Inv c' i
    invariant_holds (inl inv) =
        on_graph_of_end
        (abstract_kept app c.graph graph (node_bound c.graph) i node starts (Inv (component c.graph i)) here
        (shadow ss) (abstract_of app c) (abstract_of app c') (steps_shadow app ss c c' graph counted sound steps) inv)
    invariant_holds (inr (o, reached, opened)) =
        on_graph_of_end
        (abstract_reset app c.graph graph (node_bound c.graph) i node starts (Inv (component c.graph i)) here
        (shadow ss) (abstract_of app c) (abstract_of app c')
        (opening_resets c.graph i o reached ss opened) (steps_shadow app ss c c' graph counted sound steps))

  -- ---- and all of it

  pub headline : Headline app Inv c ss c'
  headline =
      let Complete : Transition L → Type 0 =
      λ s. (p : ℕ) → Completes s p → IsComplete s.after p (wave_of s.after p).session in
      let Restarts : Transition L → Type 0 =
      λ s. (i : ℕ) → s.event ≡ Join i → local_of app s.after i ≡ app.start c.graph i in
      let Quiet : Transition L → Type 0 = λ s. Repairs s.event → ⊥ in
      let From : List (Transition L) → Type 0 = λ ts. Steps app c ts c' in
      record {
        sound = (steps_kept app ss c c' graph counted sound steps).sound;
        refines = steps_shadow app ss c c' graph counted sound steps;
        complete = each_step app c.graph graph Complete (completes_all app c.graph graph) ss c c' refl counted sound steps;
        quiet = each_step app c.graph graph Quiet (λ s on here step. step_quiet app s.before s.after s.event step here)
            ss c c' refl counted sound steps;
        once = λ before between rest opens completes o p is opening within completing none.
            opened_once app p before between rest opens completes o c c' graph counted sound (subst From is steps) opening
            within completing none;
        restarts = each_step app c.graph graph Restarts (restarts_own app c.graph) ss c c' refl counted sound steps;
        keeps = invariant_holds;
      }
