-- What is left to try of a node's choices, where the first of them aren't allowed.
use Rattle.std.proofs.Common.{◌≡◌, ℕ, ◌==◌, List, [], ◌∷◌, ◌++◌, Option, None, filter, find, map}
use Rattle.std.proofs.Common.{append_assoc, sym, ap, ◌∙◌}
use Rattle.std.specs.List.{flat_map}
use Rattle.action_tables.specs.Numbers.{all_cases}
use Rattle.app_interface.specs.Application.{App}
use Rattle.reset_model.specs.declared.event.Event.{Event}
use Rattle.reset_model.specs.declared.event.Event.TheVariants.{Claim, Follow, Adopt, Request, Relay, Open, Join}
use Rattle.reset_model.specs.declared.event.Event.TheVariants.{Finish, Mend}
use Rattle.reset_model.specs.View.{Neighbour, NodeView}
use Rattle.node_choices.specs.Choice.{case_events, is_allowed, next_of}
use Rattle.node_choices.proofs.Trying.{first_none, two_lists}

-- the parts of the choices of the node i with these neighbours
abbrev pub own_first : ℕ → List Event
own_first i = Claim i ∷ Follow i ∷ []

abbrev pub adoptions : {L : Type 0} → ℕ → List (Neighbour L) → List Event
adoptions i near = map (λ n. Adopt i n.id) near

abbrev pub own_next : ℕ → List Event
own_next i = Mend i ∷ Join i ∷ Finish i ∷ Open i ∷ []

abbrev pub own_asked : ℕ → List Event
own_asked i = Mend i ∷ Join i ∷ Finish i ∷ Open i ∷ Request i ∷ []

abbrev pub relays : {L : Type 0} → ℕ → List (Neighbour L) → List Event
relays i near = map (λ n. Relay i n.id) (filter (λ n. n.tree.father == i) near)

module _ {L : Type 0} (app : App L) (v : NodeView L) where
  abbrev pub tried : List Event → Option Event
  tried es = find (is_allowed app v) es

  abbrev pub actions : List Event
  actions = flat_map (case_events v) all_cases

  -- what was tried of these events, which are those of the node
  pub tried_own : (F : ℕ → List Event) (found r : Option Event) (i : ℕ) → found ≡ tried (F i) → i ≡ v.id → found ≡ r
      → tried (F v.id) ≡ r
  tried_own F found r i tells same is = sym (tells ∙ ap (λ k. tried (F k)) same) ∙ is

  pub from_own : tried (own_first v.id ++ (adoptions v.id v.near ++ (own_next v.id ++ (relays v.id v.near ++ actions))))
      ≡ next_of app v
  from_own =
      let a = own_first v.id in
      let b = adoptions v.id v.near in
      let c = own_next v.id in
      let d = relays v.id v.near in
      let order : (((a ++ b) ++ c) ++ d) ++ actions ≡ a ++ (b ++ (c ++ (d ++ actions))) =
      append_assoc ((a ++ b) ++ c) d actions ∙ append_assoc (a ++ b) c (d ++ actions)
      ∙ append_assoc a b (c ++ (d ++ actions)) in
      sym (ap tried order)

  -- the events of the tree, those of the wave, and the actions
  abbrev pub of_tree : List Event
  of_tree = own_first v.id ++ adoptions v.id v.near

  abbrev pub of_wave : List Event
  of_wave = own_next v.id ++ relays v.id v.near

  pub from_tree : tried (of_tree ++ (of_wave ++ actions)) ≡ next_of app v
  from_tree =
      let a = own_first v.id in
      let b = adoptions v.id v.near in
      ap tried (append_assoc a b (of_wave ++ actions)
      ∙ ap (λ l. a ++ (b ++ l)) (append_assoc (own_next v.id) (relays v.id v.near) actions)) ∙ from_own

  pub from_wave : tried of_tree ≡ None → tried (of_wave ++ actions) ≡ next_of app v
  from_wave tree =
      first_none _ _ _ tree (two_lists (is_allowed app v) of_tree (of_wave ++ actions) (next_of app v) from_tree)

  pub from_actions : tried of_tree ≡ None → tried of_wave ≡ None → tried actions ≡ next_of app v
  from_actions tree wave =
      first_none _ _ _ wave (two_lists (is_allowed app v) of_wave actions (next_of app v) (from_wave tree))
