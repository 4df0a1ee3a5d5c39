-- Sound configurations: the booted one, and what steps make of one.
use Rattle.std.proofs.Common.{Option, Result, Ok, ◌≡◌, ℕ, zero, suc, Bool, true, false, cond, nat_eq, List, [], ◌∷◌}
use Rattle.std.proofs.Common.{length, replicate, slice_index, slice_index_or, refl, sym, ap, subst, ◌∙◌, true≢false}
use Rattle.std.proofs.Common.{arith}
use Rattle.std.proofs.lemmas.Bool.{eqb-true}
use Rattle.std.proofs.lemmas.List.{get_or_default}
use Rattle.app_interface.specs.Application.{App}
use Rattle.topology.specs.Graph.{Graph, IsGraph, IsNode, IsReached, node_bound}
use Rattle.tree_layer.specs.declared.regs.TreeRegs.{TreeRegs}
use Rattle.tree_layer.specs.BootTree.{IsBooted}
use Rattle.tree_layer.specs.TreePicture.{TreePicture}
use Rattle.tree_layer.proofs.TreePictures.{rests_where_picture, booted_picture}
use Rattle.wave_layer.specs.declared.regs.WaveRegs.{WaveRegs}
use Rattle.wave_layer.specs.declared.regs.Phase.TheVariants.{Normal}
use Rattle.reset_model.specs.declared.event.Event.{Event}
use Rattle.reset_model.specs.declared.event.Event.TheVariants.{Claim, Follow, Adopt, Request, Relay, Open, Join, Finish}
use Rattle.reset_model.specs.declared.event.Event.TheVariants.{Mend, Act}
use Rattle.reset_model.specs.declared.step.Reply.TheVariants.{Applied, Complete}
use Rattle.reset_model.specs.Configuration.{Configuration, value_at, tree_of, wave_of, tree_map}
use Rattle.wave_layer.specs.WaveTable.{is_reset}
use Rattle.reset_model.specs.Steps.{event_node, reply_of, reset_at}
use Rattle.reset_model.specs.MachineSteps.{IsStep, row_step, act_step}
use Rattle.reset_model.specs.WavePicture.{WavePicture}
use Rattle.reset_model.specs.Sound.{Sound, IsSound, IsComplete, Repairs, claims, follows, adopts, mends}
use Rattle.reset_model.specs.Outcome.{IsBoot}
use Rattle.reset_model.proofs.Positions.{value_at-place}
use Rattle.reset_model.proofs.WavePictures.{sound_where_picture}
use Rattle.reset_model.proofs.SoundSteps.{sound_stays, sound_rests}
use Rattle.reset_model.proofs.CompleteResets.{completed}

-- ---- the booted configuration

-- where all nodes have one value, each has
value_at-replicate : {X : Type 0} (x : X) (ids : List ℕ) (n i : ℕ) → value_at x ids (replicate n x) i ≡ x
value_at-replicate x [] n i = refl
value_at-replicate x (k ∷ ks) zero i = refl
value_at-replicate x (k ∷ ks) (suc n) i =
    elim (nat_eq k i) as (λ b. cond b x (value_at x ks (replicate n x) i) ≡ x)
    [ true ↦ refl | false ↦ value_at-replicate x ks n i ]

booted_waves : {L : Type 0} (app : App L) (g : Graph) (m : ℕ) (c : Configuration L) → IsBoot app g m c → (i : ℕ)
    → wave_of c i ≡ record { phase = Normal; session = 0 }
booted_waves app g m c boot i =
    ap (λ ws. value_at (record { phase = Normal; session = 0 }) c.graph.ids ws i) boot.waves
    ∙ value_at-replicate (record { phase = Normal; session = 0 }) c.graph.ids (length g.ids) i

booted_trees : {L : Type 0} (app : App L) (g : Graph) (m : ℕ) (c : Configuration L) → IsGraph g → IsBoot app g m c → (i : ℕ)
    → IsNode g i → IsBooted g i (tree_map g c.trees i)
booted_trees app g m c graph boot i node =
    let place = graph.within i node in
    let k : ℕ = place.0 in
    let short = place.1 in
    let here = place.2 in
    let d : TreeRegs = record { root = 0; father = 0; dist = 0 } in
    let at : slice_index g.ids k ≡ i = get_or_default g.ids k 0 i short ∙ here in
    let booted = boot.trees.each k d (omega (arith, short, boot.trees.count)) (subst (IsNode g) (sym at) node) in
    let regs : tree_map g c.trees (slice_index g.ids k) ≡ slice_index_or c.trees k d =
    value_at-place d g.ids c.trees k graph.ascending boot.trees.count short in
    let P : ℕ → Type 0 = λ j. IsBooted g j (tree_map g c.trees j) in
    subst P at (subst (IsBooted g (slice_index g.ids k)) (sym regs) booted)

pub boot_tree_picture : {L : Type 0} (app : App L) (g : Graph) (m : ℕ) (c : Configuration L) → IsGraph g → IsBoot app g m c
    → TreePicture c.graph (tree_of c)
boot_tree_picture app g m c graph boot =
    let P : Graph → Type 0 = λ h. TreePicture h (tree_map h c.trees) in
    subst P (sym boot.graph) (booted_picture g (tree_map g c.trees) graph (booted_trees app g m c graph boot))

pub boot_wave_picture : {L : Type 0} (app : App L) (g : Graph) (m : ℕ) (c : Configuration L) → IsBoot app g m c
    → WavePicture c.graph c.modulus (tree_of c) (wave_of c)
boot_wave_picture app g m c boot =
    let waves = booted_waves app g m c boot in
    let same : (i j : ℕ) → (wave_of c i).session ≡ (wave_of c j).session =
    λ i j. ap (λ (r : WaveRegs). r.session) (waves i ∙ sym (waves j)) in
    let awake : (i : ℕ) → reset_at (wave_of c) i ≡ false = λ i. ap (λ (r : WaveRegs). is_reset r.phase) (waves i) in
    record {
      upward = λ i node joined. same _ _;
      outside = λ i node apart. absurd (apart (same _ _));
      resetting = λ i node reset. absurd (true≢false (sym reset ∙ awake i));
      edge = λ i node apart up. absurd (apart (same _ _));
      together = λ i node apart above. same _ _;
    }

pub pictures_sound : {L : Type 0} (c : Configuration L) → IsGraph c.graph
    → TreePicture c.graph (tree_of c) → WavePicture c.graph c.modulus (tree_of c) (wave_of c) → IsSound c
pictures_sound c graph tree wave =
    record {
      tree = (rests_where_picture c.graph (node_bound c.graph) (tree_of c) graph (omega arith)).1 tree;
      wave = (sound_where_picture c.graph c.modulus (tree_of c) (wave_of c) graph tree).1 wave;
    }

-- ---- steps

same_regs_sound : {L : Type 0} (c c' : Configuration L) → c'.graph ≡ c.graph → c'.modulus ≡ c.modulus
    → c'.trees ≡ c.trees → c'.waves ≡ c.waves
    → IsSound c → IsSound c'
same_regs_sound c c' graph modulus trees waves sound = rw (graph, modulus, trees, waves) sound

pub step_sound : {L : Type 0} (app : App L) (c c' : Configuration L) (e : Event) → IsGraph c.graph → IsStep app c e c'
    → IsSound c → IsSound c'
step_sound app c c' e graph (row_step step) sound =
    let P : Graph → ℕ → Type 0 = λ g m. Sound g (node_bound g) m (tree_of c') (wave_of c') in
    subst (λ g. P g c'.modulus) (sym step.graph)
    (subst (P c.graph) (sym step.modulus)
    (sound_stays c.graph (node_bound c.graph) c.modulus (tree_of c) (tree_of c') (wave_of c) (wave_of c') e graph sound
    step.regs))
step_sound app c c' e graph (act_step i case with is step) sound =
    same_regs_sound c c' step.graph step.modulus step.trees step.waves sound

no_repair : (i case : ℕ) (with : Option ℕ) (e : Event) → e ≡ Act i case with → Repairs e → ⊥
no_repair i case with e is (claims k) = absurd (cc)
no_repair i case with e is (follows k) = absurd (cc)
no_repair i case with e is (adopts k j) = absurd (cc)
no_repair i case with e is (mends k) = absurd (cc)

pub step_quiet : {L : Type 0} (app : App L) (c c' : Configuration L) (e : Event) → IsStep app c e c' → IsSound c
    → Repairs e → ⊥
step_quiet app c c' e (row_step step) sound repairs =
    sound_rests c.graph (node_bound c.graph) c.modulus (tree_of c) (wave_of c) e step.regs.node sound repairs step.regs.enabled
step_quiet app c c' e (act_step i case with is step) sound repairs = no_repair i case with e is repairs

finished : {L : Type 0} (app : App L) (c c' : Configuration L) (i x : ℕ) → IsGraph c.graph
    → IsStep app c (Finish i) c' → IsSound c → (b : Bool) → nat_eq (tree_of c i).father i ≡ b
    → cond b (Complete (wave_of c i).session) Applied ≡ Complete x → IsComplete c' i x
finished app c c' i x graph (act_step k case with is step) sound b own told = absurd (cc)
finished app c c' i x graph (row_step step) sound false other told = absurd (cc)
finished app c c' i x graph (row_step step) sound true own told =
    let P : Graph → Type 0 =
    λ g. (j : ℕ) → IsReached g i j
    → (reset_at (wave_of c') j ≡ false) × ((wave_of c' j).session ≡ (wave_of c i).session) in
    let session : (wave_of c i).session ≡ x = cc in
    let all =
    subst P (sym step.graph)
    (completed c.graph (node_bound c.graph) c.modulus (tree_of c) (tree_of c') (wave_of c) (wave_of c') i graph sound
    (eqb-true _ _ own) step.regs) in
    λ j reached. ((all j reached).0, (all j reached).1 ∙ session)

pub step_complete : {L : Type 0} (app : App L) (c c' : Configuration L) (e : Event) (x : ℕ) → IsGraph c.graph
    → IsStep app c e c' → IsSound c → reply_of (tree_of c) (wave_of c) e ≡ Complete x
    → IsComplete c' (event_node e) x
step_complete app c c' (Claim i) x graph step sound told = absurd (cc)
step_complete app c c' (Follow i) x graph step sound told = absurd (cc)
step_complete app c c' (Adopt i j) x graph step sound told = absurd (cc)
step_complete app c c' (Request i) x graph step sound told = absurd (cc)
step_complete app c c' (Relay i k) x graph step sound told = absurd (cc)
step_complete app c c' (Open i) x graph step sound told = absurd (cc)
step_complete app c c' (Join i) x graph step sound told = absurd (cc)
step_complete app c c' (Finish i) x graph step sound told =
    finished app c c' i x graph step sound _ refl told
step_complete app c c' (Mend i) x graph step sound told = absurd (cc)
step_complete app c c' (Act i case with) x graph step sound told = absurd (cc)

pub same_value : {X E : Type 0} {x y : X} → ◌≡◌ {A = Result X E} (Ok x) (Ok y) → x ≡ y
same_value h = cc
