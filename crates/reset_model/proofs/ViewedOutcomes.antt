-- What a node's view says of an event is what the maps of the configuration say.
use Rattle.std.proofs.Common.{◌≡◌, ℕ, ◌==◌, not, Bool, true, false, cond, ◌&&◌, ◌||◌, List, [], ◌∷◌, map, filter}
use Rattle.std.proofs.Common.{Option, Some, None, Result, Ok, Err, refl, ap, ap₂, ◌∙◌}
use Rattle.std.specs.List.{find, list_any}
use Rattle.std.specs.Map.{lookup}
use Rattle.std.specs.Option.{option_map, option_map_or}
use Rattle.std.proofs.lemmas.Bool.{eq-eqb}
use Rattle.std.proofs.lemmas.Simd.{map-map}
use Rattle.app_interface.specs.Application.{App}
use Rattle.topology.specs.Graph.{IsGraph, are_linked, neighbours_of, node_bound, has, is_node}
use Rattle.topology.proofs.Membership.{has-Contains, has-filter}
use Rattle.wave_layer.specs.declared.regs.WaveRegs.{WaveRegs}
use Rattle.wave_layer.specs.declared.regs.FatherSeen.{FatherSeen}
use Rattle.wave_layer.specs.declared.regs.FatherSeen.TheVariants.{Itself, Lost, Is}
use Rattle.reset_model.specs.declared.event.Event.{Event}
use Rattle.reset_model.specs.declared.event.Event.TheVariants.{Claim, Follow, Adopt, Request, Relay, Open, Join, Finish}
use Rattle.reset_model.specs.declared.event.Event.TheVariants.{Mend, Act}
use Rattle.reset_model.specs.declared.plan.Fired.{Fired}
use Rattle.reset_model.specs.declared.plan.Fired.TheVariants.{Tree, Wave}
use Rattle.reset_model.specs.declared.plan.Seen.TheVariants as layer
use Rattle.reset_model.specs.declared.step.StepRefusal.{StepRefusal}
use Rattle.reset_model.specs.declared.step.StepRefusal.TheVariants.{StrangeNode, StrangeNeighbour}
use Rattle.reset_model.specs.Actions.{case_outcome_of, first_apart, judged, misfit, reads_near}
use Rattle.reset_model.specs.Configuration.{Configuration, tree_of, wave_of, local_of}
use Rattle.reset_model.specs.LocalSteps.{rows_fired, cases_of, children_of, father_seen, first_fired, is_neighbour}
use Rattle.reset_model.specs.LocalSteps as maps
use Rattle.reset_model.specs.Outcome.{acted, done, map_outcome, row_outcome}
use Rattle.reset_model.specs.Steps.{event_node, is_of_tree, named_node}
use Rattle.reset_model.specs.Planned.{case_planned, case_taken, named_planned, near_apart, outcome_of, row_fired}
use Rattle.reset_model.specs.Planned.{row_planned, sees, written}
use Rattle.reset_model.specs.View.{Neighbour, near_of, view_of, near_waves, tree_view, father_of, wave_view}
use Rattle.reset_model.proofs.Seen.{lookup-among}

-- ---- lists that are taken from a list

filter-map : {X Y : Type 0} (p : Y → Bool) (f : X → Y) (xs : List X)
    → filter p (map f xs) ≡ map f (filter (λ x. p (f x)) xs)
filter-map p f [] = refl
filter-map p f (x ∷ xs) =
    ap (λ l. cond (p (f x)) (f x ∷ l) l) (filter-map p f xs)
    ∙ elim (p (f x))
    as (λ b. cond b (f x ∷ map f (filter (λ y. p (f y)) xs)) (map f (filter (λ y. p (f y)) xs))
    ≡ map f (cond b (x ∷ filter (λ y. p (f y)) xs) (filter (λ y. p (f y)) xs))) [ true ↦ refl | false ↦ refl ]

find-map : {X Y : Type 0} (q : Y → Bool) (f : X → Y) (xs : List X)
    → find q (map f xs) ≡ option_map f (find (λ x. q (f x)) xs)
find-map q f [] = refl
find-map q f (x ∷ xs) =
    ap (λ o. cond (q (f x)) (Some (f x)) o) (find-map q f xs)
    ∙ elim (q (f x))
    as (λ b. cond b (Some (f x)) (option_map f (find (λ y. q (f y)) xs))
    ≡ option_map f (cond b (Some x) (find (λ y. q (f y)) xs))) [ true ↦ refl | false ↦ refl ]

module _ {L : Type 0} (app : App L) (c : Configuration L) where
  -- what is found among neighbours is named by its identifier
  id_of-found : (o : Option ℕ) → option_map (λ (n : Neighbour L). n.id) (option_map (near_of app c) o) ≡ o
  id_of-found None = refl
  id_of-found (Some j) = refl

  any-near : (i : ℕ) (js : List ℕ) → list_any (λ (n : Neighbour L). n.id == i) (map (near_of app c) js) ≡ has js i
  any-near i [] = refl
  any-near i (j ∷ js) = ap (λ b. (j == i) || b) (any-near i js)

  -- ---- what is seen of a layer

  pub tree_view-is : (i : ℕ)
      → tree_view (view_of app c i) ≡ maps.tree_view_of c.graph (node_bound c.graph) (tree_of c) i
  tree_view-is i =
      ap (λ near. record { id = i; bound = node_bound c.graph; own = tree_of c i; near = near })
      (map-map (λ (n : Neighbour L). (n.id, n.tree)) (near_of app c) (neighbours_of c.graph i))

  waves-is : (js : List ℕ) → near_waves (map (near_of app c) js) ≡ map (λ j. (j, wave_of c j)) js
  waves-is js = map-map (λ (n : Neighbour L). (n.id, n.wave)) (near_of app c) js

  module _ (graph : IsGraph c.graph) where
    -- a node is among the neighbours where it is linked
    among-linked : (i j : ℕ) → has (neighbours_of c.graph i) j ≡ are_linked c.graph i j
    among-linked i j = has-filter (are_linked c.graph i) c.graph.ids j ∙ at (are_linked c.graph i j) refl
      where
        at : (b : Bool) → are_linked c.graph i j ≡ b → (b && has c.graph.ids j) ≡ b
        at true linked = has-Contains c.graph.ids j
            (graph.within j (graph.ends j i (graph.symmetric j i ∙ linked)))
        at false linked = refl

    father-is : (i : ℕ) → father_of (view_of app c i) ≡ father_seen c.graph (tree_of c) (wave_of c) i
    father-is i =
        let f = (tree_of c i).father in
        let own : Option WaveRegs → FatherSeen = λ o. cond (f == i) Itself (option_map_or (λ up. Is up) o Lost) in
        ap own (ap (lookup (λ k. k == f)) (waves-is (neighbours_of c.graph i))
        ∙ lookup-among (wave_of c) (neighbours_of c.graph i) f
        ∙ ap (λ b. cond b (Some (wave_of c f)) None) (among-linked i f))
        ∙ elim (are_linked c.graph i f)
        as (λ b. own (cond b (Some (wave_of c f)) None) ≡ cond (f == i) Itself (cond b (Is (wave_of c f)) Lost))
        [ true ↦ refl | false ↦ refl ]

    children-is : (i : ℕ)
        → near_waves (filter (λ n. n.tree.father == i) (view_of app c i).near)
        ≡ map (λ k. (k, wave_of c k)) (children_of c.graph (tree_of c) i)
    children-is i =
        ap near_waves (filter-map (λ (n : Neighbour L). n.tree.father == i) (near_of app c) (neighbours_of c.graph i))
        ∙ waves-is (children_of c.graph (tree_of c) i)

    pub wave_view-is : (i : ℕ) → wave_view (view_of app c i) ≡ maps.view_of c.graph c.modulus (tree_of c) (wave_of c) i
    wave_view-is i =
        ap₂ (λ f cs. record { own = wave_of c i; father = f; children = cs; modulus = c.modulus }) (father-is i)
        (children-is i)

    rows-is : (e : Event)
        → row_fired (view_of app c (event_node e)) e ≡ rows_fired c.graph (node_bound c.graph) c.modulus (tree_of c) (wave_of c) e
    rows-is e =
        ap₂ (λ v w. first_fired (cond (is_of_tree e) (layer.Tree v) (layer.Wave w)) (named_node e) (cases_of e))
        (tree_view-is (event_node e)) (wave_view-is (event_node e))

    -- ---- what an action reads

    pub case-is : (i case : ℕ) (with : Option ℕ)
        → case_taken app (view_of app c i) case with ≡ case_outcome_of app c.graph (node_bound c.graph) (wave_of c)
        (local_of app c) i case with
    case-is i case with =
        let p : ℕ → Bool = reads_near (app.reads case) with in
        let js = neighbours_of c.graph i in
        let read : List (Neighbour L) → Result L StepRefusal = λ ns.
        judged (misfit (app.reads case) with) (near_apart (view_of app c i) ns)
        (app.next i (node_bound c.graph) case with (local_of app c i) (map (λ n. (n.id, n.local)) ns)) in
        ap read (filter-map (λ (n : Neighbour L). p n.id) (near_of app c) js)
        ∙ ap₂ (λ apart locals. judged (misfit (app.reads case) with) apart
        (app.next i (node_bound c.graph) case with (local_of app c i) locals))
        (ap (option_map (λ (n : Neighbour L). n.id))
        (find-map (λ (n : Neighbour L). not (n.wave.session == (wave_of c i).session)) (near_of app c)
        (filter p js))
        ∙ id_of-found (first_apart (wave_of c) i (filter p js)))
        (map-map (λ (n : Neighbour L). (n.id, n.local)) (near_of app c) (filter p js))

    -- ---- and the outcome

    sees-is : (i : ℕ) (with : Option ℕ) → sees (view_of app c i) with ≡ is_neighbour c.graph i with
    sees-is i None = refl
    sees-is i (Some j) = any-near j (neighbours_of c.graph i) ∙ among-linked i j

    -- at a node, and with a neighbour if it names one, the event does what its layer says
    at_node : (e : Event)
        → outcome_of app c e ≡ cond (not (is_node c.graph (event_node e))) (Err StrangeNode)
        (cond (not (is_neighbour c.graph (event_node e) (named_node e))) (Err StrangeNeighbour)
        (written c (event_node e) (named_planned app (view_of app c (event_node e)) e)))
    at_node e =
        let i = event_node e in
        let there = is_node c.graph i in
        ap₂ (λ own near. cond (not there) (Err StrangeNode)
        (written c i
        (cond (not own) (Err StrangeNode)
        (cond (not near) (Err StrangeNeighbour) (named_planned app (view_of app c i) e)))))
        (eq-eqb i i refl) (sees-is i (named_node e))
        ∙ ap (λ r. cond (not there) (Err StrangeNode) r)
        (elim (is_neighbour c.graph i (named_node e))
        as (λ b. written c i (cond (not b) (Err StrangeNeighbour) (named_planned app (view_of app c i) e))
        ≡ cond (not b) (Err StrangeNeighbour) (written c i (named_planned app (view_of app c i) e)))
        [ true ↦ refl | false ↦ refl ])

    -- what a row leaves is written alike
    row_written : (i : ℕ) (r : Result Fired StepRefusal)
        → written c i (row_planned (view_of app c i) r) ≡ done app c i r
    row_written i (Err f) = refl
    row_written i (Ok (Tree regs)) = refl
    row_written i (Ok (Wave move)) = at move.restarts refl
      where
        at : (b : Bool) → move.restarts ≡ b
            → written c i (row_planned (view_of app c i) (Ok (Wave move))) ≡ done app c i (Ok (Wave move))
        at true is = rw is refl
        at false is = rw is refl

    done-ends : (i : ℕ) (there near : Bool) (r : Result Fired StepRefusal)
        → cond (not there) (Err StrangeNode) (cond (not near) (Err StrangeNeighbour) (done app c i r))
        ≡ done app c i (cond (not there) (Err StrangeNode) (cond (not near) (Err StrangeNeighbour) r))
    done-ends i false near r = refl
    done-ends i true false r = refl
    done-ends i true true r = refl

    acted-ends : (i : ℕ) (there near : Bool) (r : Result L StepRefusal)
        → cond (not there) (Err StrangeNode) (cond (not near) (Err StrangeNeighbour) (written c i (case_planned r)))
        ≡ acted c i (cond (not there) (Err StrangeNode) (cond (not near) (Err StrangeNeighbour) r))
    acted-ends i false near r = refl
    acted-ends i true false r = refl
    acted-ends i true true (Ok new) = refl
    acted-ends i true true (Err f) = refl

    row-is : (e : Event)
        → named_planned app (view_of app c (event_node e)) e
        ≡ row_planned (view_of app c (event_node e)) (row_fired (view_of app c (event_node e)) e)
        → outcome_of app c e ≡ row_outcome app c e
    row-is e row =
        let i = event_node e in
        let there = is_node c.graph i in
        let near = is_neighbour c.graph i (named_node e) in
        at_node e
        ∙ ap (λ r. cond (not there) (Err StrangeNode) (cond (not near) (Err StrangeNeighbour) r))
        (ap (written c i) (row ∙ ap (row_planned (view_of app c i)) (rows-is e))
        ∙ row_written i (rows_fired c.graph (node_bound c.graph) c.modulus (tree_of c) (wave_of c) e))
        ∙ done-ends i there near (rows_fired c.graph (node_bound c.graph) c.modulus (tree_of c) (wave_of c) e)

    pub outcome-is : (e : Event) → outcome_of app c e ≡ map_outcome app c e
    outcome-is (Claim i) = row-is (Claim i) refl
    outcome-is (Follow i) = row-is (Follow i) refl
    outcome-is (Adopt i j) = row-is (Adopt i j) refl
    outcome-is (Request i) = row-is (Request i) refl
    outcome-is (Relay i k) = row-is (Relay i k) refl
    outcome-is (Open i) = row-is (Open i) refl
    outcome-is (Join i) = row-is (Join i) refl
    outcome-is (Finish i) = row-is (Finish i) refl
    outcome-is (Mend i) = row-is (Mend i) refl
    outcome-is (Act i case with) =
        let there = is_node c.graph i in
        let near = is_neighbour c.graph i with in
        at_node (Act i case with)
        ∙ ap (λ r. cond (not there) (Err StrangeNode)
        (cond (not near) (Err StrangeNeighbour) (written c i (case_planned r)))) (case-is i case with)
        ∙ acted-ends i there near
        (case_outcome_of app c.graph (node_bound c.graph) (wave_of c) (local_of app c) i case with)
