-- Whether a view allows an event of the wave, by what the node sees of the wave.
use Rattle.std.proofs.Common.{◌≡◌, ◌⊎◌, inl, inr, subst, ℕ, not, Bool, true, false, cond, ◌&&◌, Option, Result, Ok, Err, is_ok, refl, sym, ap, ap₂, ◌∙◌}
use Rattle.std.proofs.lemmas.Bool.{eq-eqb}
use Rattle.app_interface.specs.Application.{App}
use Rattle.reset_model.specs.declared.event.Event.{Event}
use Rattle.reset_model.specs.declared.event.Event.TheVariants.{Claim, Follow, Adopt, Request, Relay, Open, Join, Finish}
use Rattle.reset_model.specs.declared.event.Event.TheVariants.{Mend, Act}
use Rattle.reset_model.specs.declared.plan.Fired.{Fired}
use Rattle.reset_model.specs.declared.plan.Seen.{Seen}
use Rattle.reset_model.specs.declared.plan.Seen.TheVariants.{Wave}
use Rattle.reset_model.specs.declared.step.StepRefusal.{StepRefusal}
use Rattle.reset_model.specs.declared.step.StepRefusal.TheVariants.{StrangeNode, StrangeNeighbour}
use Rattle.reset_model.specs.LocalSteps.{cases_of, first_fired}
use Rattle.reset_model.specs.Planned.{Planned, named_planned, planned, row_fired, row_planned, sees}
use Rattle.reset_model.specs.Steps.{event_node, named_node}
use Rattle.reset_model.specs.View.{NodeView, layer_view, wave_view}
use Rattle.node_choices.specs.Choice.{is_allowed}

-- an event of the wave
abbrev pub IsOfWave : Event → Type 0
IsOfWave (Claim i) = ⊥
IsOfWave (Follow i) = ⊥
IsOfWave (Adopt i j) = ⊥
IsOfWave (Act i case with) = ⊥
IsOfWave e = Unit {0}

-- it is one of these
abbrev pub IsOneOfWave : Event → Type 0
IsOneOfWave e = ((i : ℕ) × (e ≡ Request i)) ⊎ (((i : ℕ) × (c : ℕ) × (e ≡ Relay i c)) ⊎ (((i : ℕ) × (e ≡ Open i))
    ⊎ (((i : ℕ) × (e ≡ Join i)) ⊎ (((i : ℕ) × (e ≡ Finish i)) ⊎ ((i : ℕ) × (e ≡ Mend i))))))

of_wave : (e : Event) → IsOneOfWave e → IsOfWave e
of_wave e (inl (i, is)) = subst IsOfWave (sym is) (record {})
of_wave e (inr (inl (i, c, is))) = subst IsOfWave (sym is) (record {})
of_wave e (inr (inr (inl (i, is)))) = subst IsOfWave (sym is) (record {})
of_wave e (inr (inr (inr (inl (i, is))))) = subst IsOfWave (sym is) (record {})
of_wave e (inr (inr (inr (inr (inl (i, is)))))) = subst IsOfWave (sym is) (record {})
of_wave e (inr (inr (inr (inr (inr (i, is)))))) = subst IsOfWave (sym is) (record {})

layer_is : {L : Type 0} (v : NodeView L) (e : Event) → IsOfWave e → layer_view v e ≡ Wave (wave_view v)
layer_is v (Claim i) wave = absurd wave
layer_is v (Follow i) wave = absurd wave
layer_is v (Adopt i j) wave = absurd wave
layer_is v (Act i case with) wave = absurd wave
layer_is v (Request i) wave = refl
layer_is v (Relay i c) wave = refl
layer_is v (Open i) wave = refl
layer_is v (Join i) wave = refl
layer_is v (Finish i) wave = refl
layer_is v (Mend i) wave = refl

row_is : {L : Type 0} (app : App L) (v : NodeView L) (e : Event) → IsOfWave e
    → named_planned app v e ≡ row_planned v (row_fired v e)
row_is app v (Claim i) wave = absurd wave
row_is app v (Follow i) wave = absurd wave
row_is app v (Adopt i j) wave = absurd wave
row_is app v (Act i case with) wave = absurd wave
row_is app v (Request i) wave = refl
row_is app v (Relay i c) wave = refl
row_is app v (Open i) wave = refl
row_is app v (Join i) wave = refl
row_is app v (Finish i) wave = refl
row_is app v (Mend i) wave = refl

both_ok : {L : Type 0} (near : Bool) (does : Planned L)
    → (near && is_ok does) ≡ is_ok (cond (not near) (Err StrangeNeighbour) does)
both_ok true does = refl
both_ok false does = refl

pub ok_row : {L : Type 0} (v : NodeView L) (r : Result Fired StepRefusal) → is_ok (row_planned v r) ≡ is_ok r
ok_row v (Ok does) = refl
ok_row v (Err f) = refl

-- where the event is one of its own node and of a layer, it is allowed where one of its rows fires
pub row_allowed : {L : Type 0} {inside v : NodeView L} {seen : Seen} {id node : ℕ} {does : Bool} (app : App L) (e : Event)
    → inside ≡ v → id ≡ inside.id → node ≡ event_node e → seen ≡ Wave (wave_view inside)
    → does ≡ (sees inside (named_node e) && is_ok (first_fired seen (named_node e) (cases_of e))) → id ≡ node
    → IsOneOfWave e → does ≡ is_allowed app v e
row_allowed {inside = inside} {v = v} {seen = seen} {does = does} app e view own at looks fires same one =
    let wave : IsOfWave e = of_wave e one in
    let layer : seen ≡ layer_view v e = looks ∙ ap (λ w. Wave (wave_view w)) view ∙ sym (layer_is v e wave) in
    let its : v.id ≡ event_node e = ap (λ w. w.id) (sym view) ∙ sym own ∙ same ∙ at in
    let does_so : does ≡ (sees v (named_node e) && is_ok (row_fired v e)) =
    fires ∙ ap₂ (λ w s. sees w (named_node e) && is_ok (first_fired s (named_node e) (cases_of e))) view layer in
    does_so ∙ ap (λ b. sees v (named_node e) && b) (sym (ok_row v (row_fired v e)) ∙ ap is_ok (sym (row_is app v e wave)))
    ∙ both_ok (sees v (named_node e)) (named_planned app v e)
    ∙ sym (ap (λ b. is_ok (cond (not b) (Err StrangeNode) (cond (not (sees v (named_node e))) (Err StrangeNeighbour)
    (named_planned app v e)))) (eq-eqb v.id (event_node e) its))

-- and what it does is what one of its rows does
pub row_is_planned : {L : Type 0} {inside v : NodeView L} {seen : Seen} {id node : ℕ} {named : Option ℕ} {near : Bool}
    (app : App L) (e : Event) → inside ≡ v → id ≡ inside.id → node ≡ event_node e → named ≡ named_node e
    → near ≡ sees inside named → seen ≡ Wave (wave_view inside) → id ≡ node → near ≡ true → IsOneOfWave e
    → row_planned inside (first_fired seen (named_node e) (cases_of e)) ≡ planned app v e
row_is_planned {inside = inside} {v = v} {seen = seen} app e view own at names sees_it looks same there one =
    let wave : IsOfWave e = of_wave e one in
    let layer : seen ≡ layer_view v e = looks ∙ ap (λ w. Wave (wave_view w)) view ∙ sym (layer_is v e wave) in
    let its : v.id ≡ event_node e = ap (λ w. w.id) (sym view) ∙ sym own ∙ same ∙ at in
    let neighbour : sees v (named_node e) ≡ true = ap₂ (λ w n. sees w n) (sym view) (sym names) ∙ sym sees_it ∙ there in
    ap₂ (λ w s. row_planned w (first_fired s (named_node e) (cases_of e))) view layer ∙ sym (row_is app v e wave)
    ∙ sym (ap (λ b. cond (not b) (Err StrangeNode) (cond (not (sees v (named_node e))) (Err StrangeNeighbour)
    (named_planned app v e))) (eq-eqb v.id (event_node e) its)
    ∙ ap (λ b. cond (not b) (Err StrangeNeighbour) (named_planned app v e)) neighbour)
