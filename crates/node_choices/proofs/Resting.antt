-- Where no row of a layer is enabled, the view allows none of the layer's events.
use Rattle.std.proofs.Common.{◌≡◌, ◌⊎◌, inl, inr, true≢false, ℕ, suc, length, arith, Bool, true, false, cond, ◌||◌, ◌==◌}
use Rattle.std.proofs.Common.{not, List, [], ◌∷◌, map, find, Some, None}
use Rattle.std.proofs.Common.{is_ok, refl, sym, ap, ◌∙◌}
use Rattle.std.proofs.lemmas.Bool.{eqb-true}
use Rattle.app_interface.specs.Application.{App}
use Rattle.action_tables.specs.Numbers.{is_among}
use Rattle.reset_model.specs.declared.event.Event.{Event}
use Rattle.reset_model.specs.declared.event.Event.TheVariants.{Claim, Follow, Adopt, Relay, Open, Join, Finish, Mend}
use Rattle.reset_model.specs.declared.plan.Seen.{Seen}
use Rattle.reset_model.specs.declared.plan.Seen.TheVariants.{Tree, Wave}
use Rattle.reset_model.specs.LocalSteps.{cases_of, first_fired}
use Rattle.reset_model.specs.Planned.{named_planned, row_fired, row_planned, sees}
use Rattle.reset_model.specs.Steps.{event_node, named_node}
use Rattle.reset_model.specs.View.{Neighbour, NodeView, layer_view, tree_view, wave_view}
use Rattle.node_choices.specs.Choice.{is_allowed}
use Rattle.node_choices.specs.Sight.{IsOfLayer, enabled_in, none_but_request, some_among}
use Rattle.node_choices.proofs.Allowing.{ok_row}
use Rattle.node_choices.proofs.EnabledRows.{none_fires}
use Rattle.node_choices.proofs.Fitting.{refused_later}

one_alone : (x : ℕ) (is_1 : Bool) → (x == 1) ≡ is_1 → (1 == cond (is_1 || false) 1 0) ≡ true
    → ((x ∷ []) ≡ []) ⊎ ((x ∷ []) ≡ 1 ∷ [])
one_alone x true same is = inr (ap (λ n. n ∷ []) (eqb-true x 1 same))
one_alone x false same is = absurd (true≢false (sym is))

no_more : (has : Bool) (n : ℕ) → (suc (suc n) == cond has 1 0) ≡ true → ⊥
no_more true n is =
    let two : suc (suc n) ≡ 1 = eqb-true (suc (suc n)) 1 is in
    omega (arith, two)
no_more false n is =
    let two : suc (suc n) ≡ 0 = eqb-true (suc (suc n)) 0 is in
    omega (arith, two)

-- no row, or the request alone
alone_or_none : (rows : List ℕ) → none_but_request rows ≡ true → (rows ≡ []) ⊎ (rows ≡ 1 ∷ [])
alone_or_none [] is = inl refl
alone_or_none (x ∷ []) is = one_alone x (x == 1) refl is
alone_or_none (x ∷ y ∷ rows) is = absurd (no_more (is_among 1 (x ∷ y ∷ rows)) (length rows) is)

none_of : (rows cases : List ℕ) → (rows ≡ []) ⊎ (rows ≡ 1 ∷ []) → some_among [] cases ≡ false
    → some_among (1 ∷ []) cases ≡ false → some_among rows cases ≡ false
none_of rows cases (inl is) none one = ap (λ r. some_among r cases) is ∙ none
none_of rows cases (inr is) none one = ap (λ r. some_among r cases) is ∙ one

module _ {L : Type 0} (app : App L) (v : NodeView L) where
  -- an event of a layer of which no case is enabled
  rests : (e : Event) (seen : Seen) → layer_view v e ≡ seen → IsOfLayer seen e
      → named_planned app v e ≡ row_planned v (row_fired v e) → some_among (enabled_in seen) (cases_of e) ≡ false
      → is_allowed app v e ≡ false
  rests e seen layer of row none =
      refused_later (not (v.id == event_node e)) (not (sees v (named_node e))) (named_planned app v e)
      (ap is_ok row ∙ ok_row v (row_fired v e)
      ∙ ap (λ s. is_ok (first_fired s (named_node e) (cases_of e))) layer
      ∙ sym (none_fires seen e true (enabled_in seen) of refl none))

  -- none of these, and then none of those
  none_first : (e : Event) (es : List Event) → is_allowed app v e ≡ false → find (is_allowed app v) es ≡ None
      → find (is_allowed app v) (e ∷ es) ≡ None
  none_first e es refused rest = ap (λ b. cond b (Some e) (find (is_allowed app v) es)) refused ∙ rest

  none_toward : (to : ℕ → Event) → ((j : ℕ) → is_allowed app v (to j) ≡ false) → (near : List (Neighbour L))
      → find (is_allowed app v) (map (λ n. to n.id) near) ≡ None
  none_toward to none [] = refl
  none_toward to none (n ∷ ns) = none_first (to n.id) (map (λ m. to m.id) ns) (none n.id) (none_toward to none ns)

  pub no_tree : enabled_in (Tree (tree_view v)) ≡ [] → (near : List (Neighbour L))
      → None ≡ find (is_allowed app v) (Claim v.id ∷ Follow v.id ∷ map (λ n. Adopt v.id n.id) near)
  no_tree none near =
      let seen : Seen = Tree (tree_view v) in
      let adopts : List Event = map (λ n. Adopt v.id n.id) near in
      sym (none_first (Claim v.id) (Follow v.id ∷ adopts)
      (rests (Claim v.id) seen refl refl refl (ap (λ r. some_among r (cases_of (Claim v.id))) none))
      (none_first (Follow v.id) adopts
      (rests (Follow v.id) seen refl refl refl (ap (λ r. some_among r (cases_of (Follow v.id))) none))
      (none_toward (λ j. Adopt v.id j)
      (λ j. rests (Adopt v.id j) seen refl refl refl (ap (λ r. some_among r (cases_of (Adopt v.id j))) none)) near)))

  pub no_wave : none_but_request (enabled_in (Wave (wave_view v))) ≡ true → (near : List (Neighbour L))
      → None ≡ find (is_allowed app v)
      (Mend v.id ∷ Join v.id ∷ Finish v.id ∷ Open v.id ∷ map (λ n. Relay v.id n.id) near)
  no_wave none near =
      let seen : Seen = Wave (wave_view v) in
      let relays : List Event = map (λ n. Relay v.id n.id) near in
      let alone = alone_or_none (enabled_in seen) none in
      sym (none_first (Mend v.id) (Join v.id ∷ Finish v.id ∷ Open v.id ∷ relays)
      (rests (Mend v.id) seen refl refl refl (none_of (enabled_in seen) (cases_of (Mend v.id)) alone refl refl))
      (none_first (Join v.id) (Finish v.id ∷ Open v.id ∷ relays)
      (rests (Join v.id) seen refl refl refl (none_of (enabled_in seen) (cases_of (Join v.id)) alone refl refl))
      (none_first (Finish v.id) (Open v.id ∷ relays)
      (rests (Finish v.id) seen refl refl refl (none_of (enabled_in seen) (cases_of (Finish v.id)) alone refl refl))
      (none_first (Open v.id) relays
      (rests (Open v.id) seen refl refl refl (none_of (enabled_in seen) (cases_of (Open v.id)) alone refl refl))
      (none_toward (λ j. Relay v.id j)
      (λ j. rests (Relay v.id j) seen refl refl refl (none_of (enabled_in seen) (cases_of (Relay v.id j)) alone refl refl)) near)))))
