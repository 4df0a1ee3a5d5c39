-- What is decided from the parts of a view is what the view says.
use Rattle.std.proofs.Common.{◌≡◌, ◌≢◌, ◌↔◌, IfSome, IfNone, ℕ, ◌+◌, ◌<◌, ◌==◌, not, Bool, true, false, cond}
use Rattle.std.proofs.Common.{List, [], ◌∷◌, map, filter, length, nat_eq, Contains, ◌⊎◌, inl, inr, Option, Some, None}
use Rattle.std.proofs.Common.{Result, Ok, Err, refl, sym, ap, ap₂, ◌∙◌, subst, arith}
use Rattle.std.specs.List.{AllPairs, find}
use Rattle.std.specs.List.Sorted.{IsStrictlyIncreasing}
use Rattle.std.specs.Map.{lookup}
use Rattle.std.specs.Option.{is_some, option_map, option_map_or}
use Rattle.std.proofs.lemmas.Bool.{false≢true, ne_eqb}
use Rattle.std.proofs.lemmas.Bool.Decides.{eqb_tells}
use Rattle.std.proofs.lemmas.List.{get_or-map, length-map}
use Rattle.std.proofs.lemmas.List.Kept.{AllPairs-filter, AllPairs-from_increasing}
use Rattle.std.proofs.lemmas.Simd.{map-map}
use Rattle.topology.specs.Graph.{has}
use Rattle.topology.proofs.Membership.{has-Contains}
use Rattle.app_interface.specs.Application.{App}
use Rattle.app_interface.specs.declared.reads.Reads.{Reads}
use Rattle.tree_layer.specs.declared.regs.TreeRegs.{TreeRegs}
use Rattle.wave_layer.specs.WaveTable.{LocalView}
use Rattle.wave_layer.specs.declared.regs.WaveRegs.{WaveRegs}
use Rattle.wave_layer.specs.declared.regs.FatherSeen.{FatherSeen}
use Rattle.wave_layer.specs.declared.regs.FatherSeen.TheVariants.{Itself, Lost, Is}
use Rattle.reset_model.specs.declared.step.StepRefusal.{StepRefusal}
use Rattle.reset_model.specs.declared.step.StepRefusal.TheVariants.{StrangeNode}
use Rattle.reset_model.specs.Actions.{judged, misfit, reads_near}
use Rattle.reset_model.specs.Configuration.{Configuration}
use Rattle.reset_model.specs.Planned.{after_effect, case_taken, outcome_of, planned, written}
use Rattle.reset_model.specs.Steps.{event_node}
use Rattle.reset_model.specs.declared.event.Event.{Event}
use Rattle.reset_model.specs.declared.plan.Effect.{Effect}
use Rattle.reset_model.specs.declared.step.Reply.{Reply}
use Rattle.reset_model.specs.View.{IsSeen, Neighbour, NodeView, children_of, father_of, near_trees, near_waves, view_of}
use Rattle.reset_model.specs.View.{wave_view}

-- ---- a neighbour that is looked for

lookup-waves : {L : Type 0} (near : List (Neighbour L)) (j : ℕ)
    → lookup (λ k. k == j) (near_waves near) ≡ option_map (λ n. n.wave) (find (λ n. n.id == j) near)
lookup-waves [] j = refl
lookup-waves (n ∷ ns) j =
    ap (λ o. cond (n.id == j) (Some n.wave) o) (lookup-waves ns j)
    ∙ elim (n.id == j)
    as (λ b. cond b (Some n.wave) (option_map (λ m. m.wave) (find (λ m. m.id == j) ns))
    ≡ option_map (λ m. m.wave) (cond b (Some n) (find (λ m. m.id == j) ns))) [ true ↦ refl | false ↦ refl ]

-- what is found is the father
abbrev pub father_found : {L : Type 0} → Option (Neighbour L) → FatherSeen
father_found found = option_map_or (λ n. Is n.wave) found Lost

pub father-found : {L : Type 0} (v : NodeView L) (t : TreeRegs) (id : ℕ) (near : List (Neighbour L))
    (found : Option (Neighbour L)) → t ≡ v.tree → id ≡ v.id → near ≡ v.near
    → t.father ≢ id → found ≡ find (λ n. n.id == t.father) near → father_found found ≡ father_of v
father-found {L = L} v t id near found tree own all other is =
    let f = v.tree.father in
    let there : found ≡ find (λ n. n.id == f) v.near = is ∙ ap₂ (λ r ns. find (λ n. n.id == r.father) ns) tree all in
    sym (ap (λ b. cond b Itself (option_map_or (λ up. Is up) (lookup (λ k. k == f) (near_waves v.near)) Lost))
    (ne_eqb f v.id (λ same. other (ap (λ r. r.father) tree ∙ same ∙ sym own)))
    ∙ ap (λ o. option_map_or (λ up. Is up) o Lost) (lookup-waves v.near f ∙ ap (option_map (λ n. n.wave)) (sym there))
    ∙ at found)
  where
    at : (o : Option (Neighbour L)) → option_map_or (λ up. Is up) (option_map (λ n. n.wave) o) Lost ≡ father_found o
    at None = refl
    at (Some n) = refl

-- ---- the children ascend as the neighbours do

pairs-rise : {X : Type 0} (n : X → ℕ) (xs : List X) → IsStrictlyIncreasing (map n xs) → AllPairs (λ x y. n x < n y) xs
pairs-rise n xs up i j d below short =
    let far : j < length (map n xs) = subst (λ l. j < l) (sym (length-map xs n)) short in
    omega (
      arith,
      AllPairs-from_increasing (map n xs) up i j 0 below far,
      get_or-map n xs i d 0 (omega arith),
      get_or-map n xs j d 0 short,
    )

rise-pairs : {X : Type 0} (n : X → ℕ) (xs : List X) → AllPairs (λ x y. n x < n y) xs → IsStrictlyIncreasing (map n xs)
rise-pairs n [] up = λ k short. absurd (omega arith)
rise-pairs n (x ∷ xs) up = λ k short.
    let far : k + 1 < length (x ∷ xs) = subst (λ l. k + 1 < l) (length-map (x ∷ xs) n) short in
    omega (
      arith,
      up k (k + 1) x (omega arith) far,
      get_or-map n (x ∷ xs) k x 0 (omega arith),
      get_or-map n (x ∷ xs)
          (k + 1) x 0 far,
    )

pub kept_ascend : {L : Type 0} (p : Neighbour L → Bool) (near : List (Neighbour L))
    → IsStrictlyIncreasing (map (λ (j : ℕ × TreeRegs). j.0) (near_trees near))
    → IsStrictlyIncreasing (map (λ j. j.0) (near_waves (filter p near)))
kept_ascend {L = L} p near up =
    let id = λ (n : Neighbour L). n.id in
    let P : List ℕ → Type 0 = λ is. IsStrictlyIncreasing is in
    let pairs =
    pairs-rise id near (subst P (map-map (λ (j : ℕ × TreeRegs). j.0) (λ (n : Neighbour L). (n.id, n.tree)) near) up)
    in
    subst P (sym (map-map (λ j. j.0) (λ (n : Neighbour L). (n.id, n.wave)) (filter p near)))
    (rise-pairs id (filter p near) (AllPairs-filter (λ x y. id x < id y) p near pairs))

-- a view of these parts is what is seen of the wave
pub wave_view-parts : {L : Type 0} (v : NodeView L) (w : LocalView) (own : WaveRegs) (father : FatherSeen)
    (children : List (ℕ × WaveRegs)) (modulus : ℕ)
    → w ≡ record { own = own; father = father; children = children; modulus = modulus }
    → own ≡ v.wave → father ≡ father_of v → children ≡ near_waves (children_of v) → modulus ≡ v.modulus
    → wave_view v ≡ w
wave_view-parts v w own father children modulus is own_is father_is children_is modulus_is = cc

-- ---- a case of the application

module _ {L : Type 0} (app : App L) (v : NodeView L) (case : ℕ) (with : Option ℕ) where
  abbrev read_by : Option Reads → List (Neighbour L) → List (Neighbour L)
  read_by r near = filter (λ n. reads_near r with n.id) near

  abbrev judged_by : Option Reads → List (Neighbour L) → ℕ → Option L → Result L StepRefusal
  judged_by r near session next =
      judged (misfit r with) (option_map (λ n. n.id) (find (λ n. not (n.wave.session == session)) (read_by r near)))
      next

  abbrev next_by : Option Reads → List (Neighbour L) → ℕ → ℕ → L → Option L
  next_by r near id bound own = app.next id bound case with own (map (λ n. (n.id, n.local)) (read_by r near))

  -- the choice fits and no neighbour that is read is apart
  pub case_taken-next : (r : Option Reads) (near : List (Neighbour L)) (session id bound : ℕ) (own : L)
      (seen : List (ℕ × L)) → r ≡ app.reads case → near ≡ v.near → session ≡ v.wave.session → id ≡ v.id
      → bound ≡ v.bound → own ≡ v.local
      → None ≡ misfit r with → None
      ≡ option_map (λ n. n.id)
      (find (λ n. not (n.wave.session == session)) (filter (λ n. reads_near r with n.id) near))
      → seen ≡ map (λ n. (n.id, n.local)) (filter (λ n. reads_near r with n.id) near)
      → case_taken app v case with ≡ judged None None (app.next id bound case with own seen)
  case_taken-next r near session id bound own seen reads all same_session same_id same_bound same_own fits agree
      same_seen =
      ap₂ (λ o ns. judged_by o ns v.wave.session (next_by o ns v.id v.bound v.local)) (sym reads) (sym all)
      ∙ ap (λ s. judged_by r near s (next_by r near v.id v.bound v.local)) (sym same_session)
      ∙ ap₂ (λ f apart. judged f apart (next_by r near v.id v.bound v.local)) (sym fits) (sym agree)
      ∙ ap (judged None None)
      (ap₂ (λ i b. next_by r near i b v.local) (sym same_id) (sym same_bound)
      ∙ ap₂ (λ x s. app.next id bound case with x s) (sym same_own) (sym same_seen))

-- ---- a plan

-- whether there is an index tells whether it is so
pub is_some-tells : {X : Type 0} (o : Option X) (P : Type 0) → IfSome o (λ _. P) → IfNone o (P → ⊥) → (is_some o ≡ true)
    ↔ P
is_some-tells None P some none = (λ is. absurd (false≢true is), λ so. absurd (none so))
is_some-tells (Some x) P some none = (λ _. some, λ _. refl)

-- what a view says, if it is no refusal, is of its own node
planned-node : {L : Type 0} (app : App L) (v : NodeView L) (e : Event) (does : Effect L × Reply)
    → planned app v e ≡ Ok does → v.id ≡ event_node e
planned-node {L = L} app v e does is = at (eqb_tells v.id (event_node e))
  where
    at : ((nat_eq v.id (event_node e) ≡ true) × (v.id ≡ event_node e))
        ⊎ ((nat_eq v.id (event_node e) ≡ false) × (v.id ≢ event_node e)) → v.id ≡ event_node e
    at (inl same) = same.1
    at (inr other) = let refused : Err StrangeNode ≡ Ok does = rw other.0 at is in absurd (cc)

-- and it is written where its node sees it
pub put-planned : {L : Type 0} (app : App L) (c : Configuration L) (v : NodeView L) (e : Event) (does : Effect L)
    (reply : Reply) → IsSeen app c v → planned app v e ≡ Ok (does, reply)
    → outcome_of app c e ≡ Ok (after_effect c v.id does, reply)
put-planned {L = L} app c v e does reply seen is =
    let node = planned-node app v e (does, reply) is in
    let there : has c.graph.nodes (event_node e) ≡ true =
    has-Contains c.graph.nodes (event_node e) (subst (λ i. Contains c.graph.nodes i) node seen.0) in
    let Sees : ℕ → Type 0 = λ i. planned app (view_of app c i) e ≡ Ok (does, reply) in
    let says : planned app (view_of app c v.id) e ≡ Ok (does, reply) = ap (λ w. planned app w e) (sym seen.1) ∙ is in
    ap (λ b. cond (not b) (Err StrangeNode) (written c (event_node e) (planned app (view_of app c (event_node e)) e)))
    there
    ∙ ap (written c (event_node e)) (subst Sees node says)
    ∙ ap (λ i. Ok (after_effect c i does, reply)) (sym node)
