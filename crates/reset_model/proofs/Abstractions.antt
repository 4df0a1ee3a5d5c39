-- What one step of a sound configuration is on the abstract machine.
use Rattle.std.proofs.Common.{◌≡◌, ◌≢◌, ℕ, suc, Bool, true, false, cond, nat_eq, List, [], ◌∷◌, Contains, Option}
use Rattle.std.proofs.Common.{refl, sym, ap, ap₂, subst, ◌∙◌, ⊎_elim, true≢false, arith}
use Rattle.std.proofs.lemmas.Bool.{cases_Bool, cases_eq, eq-eqb, ne_eqb}
use Rattle.action_tables.specs.Modulus.{IsModulus}
use Rattle.app_interface.specs.Application.{App, Action, is_read, seen}
use Rattle.app_interface.specs.Invariant.{SameAtNodes}
use Rattle.topology.specs.Components.{leader, reaches}
use Rattle.topology.specs.Graph.{Graph, IsGraph, IsNode, IsReached, Changes}
use Rattle.topology.proofs.Components.{leader_leads, leader_node, reached_on, reaches_tests, same_leader}
use Rattle.tree_layer.specs.declared.regs.TreeRegs.{TreeRegs}
use Rattle.tree_layer.specs.TreeRows.{IsFather}
use Rattle.tree_layer.proofs.TreePictures.{rests_picture}
use Rattle.wave_layer.specs.declared.regs.WaveRegs.{WaveRegs}
use Rattle.wave_layer.specs.WaveTable.{is_reset}
use Rattle.wave_layer.specs.Sessions.{next_session}
use Rattle.wave_layer.proofs.NextSession.{next_differs}
use Rattle.reset_model.specs.declared.event.Event.TheVariants.{Open, Join}
use Rattle.reset_model.specs.Actions.{ActStep}
use Rattle.reset_model.specs.Refinement.{AbstractStep, Reset, Do, IsAbstractRun, has_joined, reset_of}
use Rattle.reset_model.specs.Sound.{Sound}
use Rattle.reset_model.specs.Steps.{Joins, join_normal, join_asked, RegsStep}
use Rattle.reset_model.specs.WavePicture.{HasJoined, WavePicture}
use Rattle.reset_model.proofs.CompleteResets.{all_awake}
use Rattle.topology.proofs.Walks.{reached_back}
use Rattle.reset_model.proofs.Fathers.{father_leader, own_father}
use Rattle.reset_model.proofs.ReadNodes.{read_linked, read_node}
use Rattle.reset_model.proofs.WavePictures.{sound_where_picture}

-- ---- abstract runs see the states of the nodes alone

-- what is seen depends on what stands at the ids that are read
seen_same : {L : Type 0} (p : ℕ → Bool) (v u : ℕ → L) (js : List ℕ) → ((j : ℕ) → Contains js j → p j ≡ true → v j ≡ u j)
    → seen p v js ≡ seen p u js
seen_same p v u [] same = refl
seen_same {L} p v u (j ∷ js) same =
    at (p j) refl (seen_same p v u js (λ k there read. same k (suc there.0, omega (arith, there.1), there.2) read))
  where
    at : (b : Bool) → p j ≡ b → seen p v js ≡ seen p u js → seen p v (j ∷ js) ≡ seen p u (j ∷ js)
    at true is rest = let here : v j ≡ u j =
        same j (0, omega arith, refl) is in rw is (ap₂ (λ x xs. (j, x) ∷ xs) here rest)
    at false is rest = rw is rest

module _ {L : Type 0} (app : App L) (g : Graph) (graph : IsGraph g) (K : ℕ) where
  pub run_from : (ss : List AbstractStep) (v u v' : ℕ → L) → SameAtNodes g v u → IsAbstractRun app g K ss u v'
      → IsAbstractRun app g K ss v v'
  run_from [] v u v' same run = λ i node. run i node ∙ same i node
  run_from (Reset i ∷ ss) v u v' same run =
      let one : SameAtNodes g (reset_of app g i v) run.0 =
      λ k node. run.1 k node ∙ ap (λ x. cond (reaches g i k) (app.start g k) x) (same k node) in
      (run.0, one, run.2)
  run_from (Do i case with ∷ ss) v u v' same run =
      let act : Action app g K i case with u run.0 = run.1 in
      let reads : ℕ → Bool = is_read g i (app.reads case) with in
      let own : v i ≡ u i = sym (same i act.node) in
      let near : seen reads v g.ids ≡ seen reads u g.ids =
      seen_same reads v u g.ids (λ j there read. sym (same j (read_node g graph i (app.reads case) with j act.fits read)))
      in (
        run.0,
        record {
          node = act.node;
          fits = act.fits;
          new = act.new;
          next = ap₂ (λ x xs. app.next i K case with x xs) own near ∙ act.next;
          changes =
              record {
                here = act.changes.here;
                others = λ k node other. act.changes.others k node other ∙ same k node;
              };
        },
        run.2,
      )

-- ---- the abstraction, from wave registers and local states

module _ (g : Graph) (w w' : ℕ → WaveRegs) (i : ℕ) (x : WaveRegs) (changes : Changes g w i x w') where
  -- an event that leaves its node's session leaves all
  pub sessions_stay : x.session ≡ (w i).session → (k : ℕ) → IsNode g k → (w' k).session ≡ (w k).session
  sessions_stay same k node =
      ⊎_elim
      (λ here. ap (λ n. (w' n).session) here ∙ ap (λ (r : WaveRegs). r.session) changes.here ∙ same
      ∙ ap (λ n. (w n).session) (sym here))
      (λ other. ap (λ (r : WaveRegs). r.session) (changes.others k node other))
      (cases_eq k i)

locals_stay : {L : Type 0} (g : Graph) (l l' : ℕ → L) (i : ℕ) → Changes g l i (l i) l' → (k : ℕ) → IsNode g k
    → l' k ≡ l k
locals_stay g l l' i changes k node =
    ⊎_elim
    (λ here. ap l' here ∙ changes.here ∙ ap l (sym here))
    (λ other. changes.others k node other)
    (cases_eq k i)

-- where the sessions stay, so do the nodes that have joined
pub joined_stays : (g : Graph) (w w' : ℕ → WaveRegs) → IsGraph g
    → ((k : ℕ) → IsNode g k → (w' k).session ≡ (w k).session) → (k : ℕ) → IsNode g k
    → has_joined g w' k ≡ has_joined g w k
joined_stays g w w' graph same k node =
    ap₂ nat_eq (same k node) (same (leader g k) (leader_node g k graph node))

-- ---- opening a session and joining it

module _ (g : Graph) (graph : IsGraph g) (K m : ℕ) (counted : IsModulus m) (t t' : ℕ → TreeRegs)
    (w w' : ℕ → WaveRegs) (sound : Sound g K m t w) (i : ℕ) where
  -- only a leader opens
  pub opens_at_leader : RegsStep g K m t w (Open i) t' w' → i ≡ leader g i
  opens_at_leader step = own_father g graph t (rests_picture g graph K t sound.tree) i step.node step.enabled.0

  -- the leader of the nodes of its component
  pub opens_for : RegsStep g K m t w (Open i) t' w' → (k : ℕ) → IsReached g i k → leader g k ≡ i
  opens_for step k reached = same_leader g i k graph step.node reached ∙ sym (opens_at_leader step)

  -- right after, no other node of the component has joined
  pub opened_apart : RegsStep g K m t w (Open i) t' w' → (k : ℕ) → IsNode g k → IsReached g i k → k ≢ i
      → has_joined g w' k ≡ false
  opened_apart step k node reached other =
      let old : (w k).session ≡ (w i).session =
      (all_awake g K m t w i graph step.node sound step.enabled.0 (ap is_reset step.enabled.1) k reached).1 in
      let own : (w' k).session ≡ (w i).session =
      ap (λ (r : WaveRegs). r.session) (step.waves.others k node other) ∙ old in
      let up : (w' (leader g k)).session ≡ next_session m (w i).session =
      ap (λ n. (w' n).session) (opens_for step k reached) ∙ ap (λ (r : WaveRegs). r.session) step.waves.here in
      ne_eqb _ _ (λ same. next_differs m (w i).session counted.two (sym up ∙ sym same ∙ own))

  -- and those of other components have as before
  pub opened_elsewhere : RegsStep g K m t w (Open i) t' w' → (k : ℕ) → IsNode g k → (IsReached g i k → ⊥)
      → has_joined g w' k ≡ has_joined g w k
  opened_elsewhere step k node apart =
      let others : (n : ℕ) → IsNode g n → (IsReached g i n → ⊥) → (w' n).session ≡ (w n).session =
      λ n there far. ap (λ (r : WaveRegs). r.session)
      (step.waves.others n there (λ same. far (subst (IsReached g i) (sym same) ([], refl)))) in
      let far : IsReached g i (leader g k) → ⊥ =
      λ r. apart (reached_on g i (leader g k) k r
      (reached_back g graph k (leader g k) (leader_leads g k graph node).reached)) in
      ap₂ nat_eq (others k node apart) (others (leader g k) (leader_node g k graph node) far)

  joins_from : Joins g m t w i → (j : ℕ) × IsFather g t i j × ((w j).session ≡ next_session m (w i).session)
  joins_from (join_normal j father reset phase next) = (j, father, next)
  joins_from (join_asked j father reset phase next) = (j, father, next)

  module _ (step : RegsStep g K m t w (Join i) t' w') where
    picture : WavePicture g m t w
    picture = (sound_where_picture g m t w graph (rests_picture g graph K t sound.tree)).0 sound.wave

    -- its father has its leader
    led : leader g (t i).father ≡ leader g i
    led = let from = joins_from step.enabled in
        rw from.1.named (father_leader g graph t i from.0 from.1)

    -- a node that joins hasn't joined before
    was_apart : HasJoined g w i → ⊥
    was_apart joined =
        let from = joins_from step.enabled in
        let above : (w (t i).father).session ≡ (w (leader g i)).session =
        picture.upward i step.node joined ∙ ap (λ n. (w n).session) led in
        let up : (w from.0).session ≡ (w (leader g i)).session = ap (λ n. (w n).session) (sym from.1.named) ∙ above in
        next_differs m (w i).session counted.two (sym from.2 ∙ up ∙ sym joined)

    pub joins_apart : has_joined g w i ≡ false
    joins_apart = ne_eqb _ _ was_apart

    -- it is no leader, so the leaders stay as they were
    leader_stays : (k : ℕ) → IsNode g k → w' (leader g k) ≡ w (leader g k)
    leader_stays k node =
        step.waves.others (leader g k) (leader_node g k graph node)
        (λ top. was_apart (ap (λ n. (w n).session)
        (sym top ∙ sym (same_leader g k (leader g k) graph node (leader_leads g k graph node).reached)
        ∙ ap (leader g) top)))

    -- it has joined afterwards
    pub joins_after : has_joined g w' i ≡ true
    joins_after =
        let from = joins_from step.enabled in
        let own : (w' i).session ≡ (w (t i).father).session = ap (λ (r : WaveRegs). r.session) step.waves.here in
        let up : (w (t i).father).session ≡ next_session m (w i).session =
        ap (λ n. (w n).session) from.1.named ∙ from.2 in
        let next : next_session m (w i).session ≡ (w (leader g i)).session = (picture.outside i step.node was_apart).1 in
        eq-eqb _ _ (own ∙ up ∙ next ∙ ap (λ (r : WaveRegs). r.session) (sym (leader_stays i step.node)))

    -- and the others as before
    pub joins_others : (k : ℕ) → IsNode g k → k ≢ i → has_joined g w' k ≡ has_joined g w k
    joins_others k node other =
        ap₂ (λ (a b : WaveRegs). nat_eq a.session b.session) (step.waves.others k node other) (leader_stays k node)

-- ---- what each step is on the abstract machine

-- the same whether the node has joined or not
either : {X : Type 0} (b : Bool) (x y : X) → x ≡ y → cond b x y ≡ y
either true x y same = same
either false x y same = refl

module _ {L : Type 0} (app : App L) (g : Graph) (graph : IsGraph g) where
  abbrev pub abstract_at : (ℕ → WaveRegs) → (ℕ → L) → ℕ → L
  abstract_at w l i = cond (has_joined g w i) (l i) (app.start g i)

  -- an event that changes neither sessions nor local states is nothing
  pub nothing : (w w' : ℕ → WaveRegs) (i : ℕ) (x : WaveRegs) (l l' : ℕ → L) → Changes g w i x w'
      → x.session ≡ (w i).session → Changes g l i (l i) l' → SameAtNodes g (abstract_at w l) (abstract_at w' l')
  nothing w w' i x l l' waves same locals k node =
      ap₂ (λ b y. cond b y (app.start g k)) (joined_stays g w w' graph (sessions_stay g w w' i x waves same) k node)
      (locals_stay g l l' i locals k node)

  module _ (K m : ℕ) (counted : IsModulus m) (t t' : ℕ → TreeRegs) (w w' : ℕ → WaveRegs)
      (sound : Sound g K m t w) (i : ℕ) (l l' : ℕ → L) (locals : Changes g l i (app.start g i) l') where
    -- to open a session is to reset the nodes of the component
    pub opening : RegsStep g K m t w (Open i) t' w'
        → SameAtNodes g (reset_of app g i (abstract_at w l)) (abstract_at w' l')
    opening step k node =
        ⊎_elim
        (λ inside. started ((reaches_tests g i k graph step.node).0 inside)
        ∙ ap (λ b. cond b (app.start g k) (abstract_at w l k)) (sym inside))
        (λ outside. kept (λ r. true≢false (sym ((reaches_tests g i k graph step.node).1 r) ∙ outside))
        ∙ ap (λ b. cond b (app.start g k) (abstract_at w l k)) (sym outside))
        (cases_Bool (reaches g i k))
      where
        started : IsReached g i k → abstract_at w' l' k ≡ app.start g k
        started reached =
            ⊎_elim
            (λ here. either (has_joined g w' k) (l' k) (app.start g k)
            (ap l' here ∙ locals.here ∙ ap (app.start g) (sym here)))
            (λ other. ap (λ b. cond b (l' k) (app.start g k))
            (opened_apart g graph K m counted t t' w w' sound i step k node reached other))
            (cases_eq k i)

        kept : (IsReached g i k → ⊥) → abstract_at w' l' k ≡ abstract_at w l k
        kept apart =
            ap₂ (λ b y. cond b y (app.start g k))
            (opened_elsewhere g graph K m counted t t' w w' sound i step k node apart)
            (locals.others k node (λ same. apart (subst (IsReached g i) (sym same) ([], refl))))

    -- to join is nothing: the node's state was its start state
    pub joining : RegsStep g K m t w (Join i) t' w' → SameAtNodes g (abstract_at w l) (abstract_at w' l')
    joining step k node =
        ⊎_elim
        (λ here.
        let started : l' k ≡ app.start g k = ap l' here ∙ locals.here ∙ ap (app.start g) (sym here) in
        let apart : has_joined g w k ≡ false =
        ap (has_joined g w) here ∙ joins_apart g graph K m counted t t' w w' sound i step in
        either (has_joined g w' k) (l' k) (app.start g k) started ∙ ap (λ b. cond b (l k) (app.start g k)) (sym apart))
        (λ other. ap₂ (λ b y. cond b y (app.start g k))
        (joins_others g graph K m counted t t' w w' sound i step k node other) (locals.others k node other))
        (cases_eq k i)

  module _ (K : ℕ) (w : ℕ → WaveRegs) (i case : ℕ) (with : Option ℕ) (l l' : ℕ → L)
      (act : ActStep app g K w i case with l l') where
    -- an action of a node that hasn't joined is nothing
    pub acting_apart : has_joined g w i ≡ false → SameAtNodes g (abstract_at w l) (abstract_at w l')
    acting_apart apart k node =
        ⊎_elim
        (λ here. let is = ap (has_joined g w) here ∙ apart in ap (λ b. cond b (l' k) (app.start g k)) is
        ∙ ap (λ b. cond b (l k) (app.start g k)) (sym is))
        (λ other. ap (λ y. cond (has_joined g w k) y (app.start g k)) (act.action.changes.others k node other))
        (cases_eq k i)

    -- an action of a node that has joined is itself: it reads nodes that have joined
    pub acting : has_joined g w i ≡ true → Action app g K i case with (abstract_at w l) (abstract_at w l')
    acting joined =
        let reads : ℕ → Bool = is_read g i (app.reads case) with in
        let own : abstract_at w l i ≡ l i = ap (λ b. cond b (l i) (app.start g i)) joined in
        let there : (j : ℕ) → Contains g.ids j → reads j ≡ true → abstract_at w l j ≡ l j =
        λ j at read. ap (λ b. cond b (l j) (app.start g j))
        (ap₂ (λ s n. nat_eq s (w n).session)
        (act.agree j (read_node g graph i (app.reads case) with j act.action.fits read) read)
        (same_leader g i j graph act.action.node (j ∷ [], (read_linked g i (app.reads case) with j act.action.fits read, refl)))
        ∙ joined) in
        record {
          node = act.action.node;
          fits = act.action.fits;
          new = act.action.new;
          next = ap₂ (λ x xs. app.next i K case with x xs) own (seen_same reads (abstract_at w l) l g.ids there)
              ∙ act.action.next;
          changes = record {
            here = ap (λ b. cond b (l' i) (app.start g i)) joined ∙ act.action.changes.here;
            others =
                λ k node other. ap (λ y. cond (has_joined g w k) y (app.start g k))
                (act.action.changes.others k node other);
          };
        }
