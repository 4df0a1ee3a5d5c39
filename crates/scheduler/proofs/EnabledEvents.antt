-- What a node sees allows exactly those of its candidates that its configuration doesn't refuse.
use Rattle.std.proofs.Common.{◌≡◌, ℕ, Bool, true, false, not, cond, List, [], ◌∷◌, ◌++◌, map, filter, is_ok, All}
use Rattle.std.proofs.Common.{Ok, Err, refl, ap, ◌∙◌, Some, None}
use Rattle.std.specs.List.{flat_map}
use Rattle.std.proofs.lemmas.List.Concat.{flat_map-cons}
use Rattle.std.proofs.lemmas.List.Elements.{All-append, All-cons, All-from_recursion, All-head, All-nil, All-same}
use Rattle.std.proofs.lemmas.List.Elements.{All-tail, All-weaker}
use Rattle.action_tables.specs.Numbers.{all_cases}
use Rattle.app_interface.specs.Application.{App}
use Rattle.topology.specs.Graph.{IsNode, is_node}
use Rattle.reset_model.proofs.NodePositions.{a_node, no_node}
use Rattle.reset_model.specs.declared.event.Event.{Event}
use Rattle.reset_model.specs.declared.event.Event.TheVariants.{Claim, Follow, Adopt, Request, Relay, Open, Join, Finish}
use Rattle.reset_model.specs.declared.event.Event.TheVariants.{Mend, Act}
use Rattle.reset_model.specs.declared.step.StepRefusal.TheVariants.{StrangeNode}
use Rattle.reset_model.specs.Configuration.{Configuration}
use Rattle.reset_model.specs.Planned.{Planned, outcome_of, planned, written}
use Rattle.reset_model.specs.Steps.{event_node}
use Rattle.reset_model.specs.View.{Neighbour, NodeView, children_of, view_of}
use Rattle.node_choices.specs.Choice.{allowed_events, candidates, case_events, is_allowed}
use Rattle.scheduler.specs.Driven.{enabled_events}

-- ---- each candidate is an event of the node

module _ {L : Type 0} (v : NodeView L) where
  abbrev IsOwn : Event → Type 0
  IsOwn e = event_node e ≡ v.id

  all_map : (f : Neighbour L → Event) → ((n : Neighbour L) → IsOwn (f n)) → (ns : List (Neighbour L))
      → All IsOwn (map f ns)
  all_map f own [] = All-nil IsOwn
  all_map f own (n ∷ ns) = All-cons IsOwn (f n) (map f ns) (own n) (all_map f own ns)

  own_case : (case : ℕ) → All IsOwn (case_events v case)
  own_case case = All-cons IsOwn (Act v.id case None) (map (λ n. Act v.id case (Some n.id)) v.near) refl
      (all_map (λ n. Act v.id case (Some n.id)) (λ n. refl) v.near)

  own_cases : (cases : List ℕ) → All IsOwn (flat_map (case_events v) cases)
  own_cases [] = All-nil IsOwn
  own_cases (case ∷ cases) =
      let rest = flat_map (case_events v) cases in
      All-same IsOwn (flat_map (case_events v) (case ∷ cases)) (case_events v case ++ rest)
      (flat_map-cons (case_events v) case cases)
      (All-append IsOwn (case_events v case) rest (own_case case) (own_cases cases))

  own_candidates : All IsOwn (candidates v)
  own_candidates =
      let first = Claim v.id ∷ Follow v.id ∷ [] in
      let adopts = map (λ n. Adopt v.id n.id) v.near in
      let next = Mend v.id ∷ Join v.id ∷ Finish v.id ∷ Open v.id ∷ Request v.id ∷ [] in
      let relays = map (λ n. Relay v.id n.id) (children_of v) in
      let of_first = All-from_recursion IsOwn first (refl, (refl, tt)) in
      let of_next = All-from_recursion IsOwn next (refl, (refl, (refl, (refl, (refl, tt))))) in
      let of_adopts = all_map (λ n. Adopt v.id n.id) (λ n. refl) v.near in
      let of_relays = all_map (λ n. Relay v.id n.id) (λ n. refl) (children_of v) in
      All-append IsOwn (first ++ adopts ++ next ++ relays) (flat_map (case_events v) all_cases)
      (All-append IsOwn (first ++ adopts ++ next) relays
      (All-append IsOwn (first ++ adopts) next
      (All-append IsOwn first adopts of_first of_adopts) of_next) of_relays)
      (own_cases all_cases)

-- ---- two tests that agree on the elements of a list keep the same

filter_alike : {X : Type 0} (p q : X → Bool) (xs : List X) → All (λ x. p x ≡ q x) xs → filter p xs ≡ filter q xs
filter_alike p q [] all = refl
filter_alike p q (x ∷ xs) all =
    let rest = filter_alike p q xs (All-tail (λ y. p y ≡ q y) x xs all) in
    ap (λ b. cond b (x ∷ filter p xs) (filter p xs)) (All-head (λ y. p y ≡ q y) x xs all)
    ∙ ap (λ l. cond (q x) (x ∷ l) l) rest

filter_none : {X : Type 0} (p : X → Bool) (xs : List X) → All (λ x. p x ≡ false) xs → filter p xs ≡ []
filter_none p [] all = refl
filter_none p (x ∷ xs) all =
    ap (λ b. cond b (x ∷ filter p xs) (filter p xs)) (All-head (λ y. p y ≡ false) x xs all)
    ∙ filter_none p xs (All-tail (λ y. p y ≡ false) x xs all)

-- ---- and so do what a node sees and its configuration

module _ {L : Type 0} (app : App L) (c : Configuration L) (i : ℕ) where
  ok_written : (does : Planned L) → is_ok (written c i does) ≡ is_ok does
  ok_written (Ok does) = refl
  ok_written (Err f) = refl

  -- an event of i, where i is a node or is none
  ok_outcome : (e : Event) (there : Bool) → is_node c.graph i ≡ there → event_node e ≡ i
      → is_ok (outcome_of app c e)
      ≡ is_ok (cond (not there) (Err StrangeNode) (written c i (planned app (view_of app c i) e)))
  ok_outcome e there here own =
      let at : ℕ → Bool = λ j. is_ok (cond (not (is_node c.graph j)) (Err StrangeNode)
      (written c j (planned app (view_of app c j) e))) in
      let by : Bool → Bool = λ b. is_ok (cond (not b) (Err StrangeNode)
      (written c i (planned app (view_of app c i) e))) in
      ap at own ∙ ap by here

  pub enabled_there : IsNode c.graph i → enabled_events app c i ≡ allowed_events app (view_of app c i)
  enabled_there node =
      let v = view_of app c i in
      let same : (e : Event) → IsOwn v e → is_ok (outcome_of app c e) ≡ is_allowed app v e =
      λ e own. ok_outcome e true (a_node c.graph.nodes i node) own ∙ ok_written (planned app v e) in
      filter_alike (λ e. is_ok (outcome_of app c e)) (is_allowed app v) (candidates v)
      (All-weaker (IsOwn v) (λ e. is_ok (outcome_of app c e) ≡ is_allowed app v e) same (candidates v)
      (own_candidates v))

  pub enabled_nowhere : (IsNode c.graph i → ⊥) → enabled_events app c i ≡ []
  enabled_nowhere strange =
      let v = view_of app c i in
      let refused : (e : Event) → IsOwn v e → is_ok (outcome_of app c e) ≡ false =
      λ e own. ok_outcome e false (no_node c.graph.nodes i strange) own in
      filter_none (λ e. is_ok (outcome_of app c e)) (candidates v)
      (All-weaker (IsOwn v) (λ e. is_ok (outcome_of app c e) ≡ false) refused (candidates v) (own_candidates v))
