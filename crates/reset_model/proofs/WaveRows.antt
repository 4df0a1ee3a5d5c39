-- What the rows of each event of the wave do on a view, in terms of the view's parts.
use Rattle.std.proofs.Common.{◌≡◌, ◌≢◌, ℕ, Bool, true, false, nat_eq, List, [], ◌∷◌, Some, None, Result}
use Rattle.std.proofs.Common.{Ok, Err, refl, sym, ap, subst, ◌∙◌, ◌⊎◌, inl, inr}
use Rattle.std.proofs.lemmas.Bool.{true≢false}
use Rattle.std.proofs.lemmas.Bool.Decides.{eqb_tells}
use Rattle.wave_layer.specs.declared.regs.WaveRegs.{WaveRegs}
use Rattle.wave_layer.specs.declared.regs.Phase.{Phase}
use Rattle.wave_layer.specs.declared.regs.Phase.TheVariants.{Normal, Initiate, Reset}
use Rattle.wave_layer.specs.declared.regs.FatherSeen.{FatherSeen}
use Rattle.wave_layer.specs.declared.regs.FatherSeen.TheVariants.{Itself, Lost, Is}
use Rattle.action_tables.specs.Nodes.{regs_of}
use Rattle.wave_layer.specs.WaveTable.{LocalView, is_reset, is_root, father_regs, children_done}
use Rattle.wave_layer.specs.Sessions.{next_session}
use Rattle.reset_model.specs.declared.step.StepRefusal.{StepRefusal}
use Rattle.reset_model.specs.declared.step.StepRefusal.TheVariants.{StrangeNode, StrangeNeighbour, NoSuchCase}
use Rattle.reset_model.specs.declared.step.StepRefusal.TheVariants.{WantsNeighbour, TakesNoNeighbour, Disagrees}
use Rattle.reset_model.specs.declared.step.StepRefusal.TheVariants.{NotEnabled, NoMemory}
use Rattle.reset_model.specs.declared.plan.Fired.{Fired}
use Rattle.reset_model.specs.declared.plan.Fired.TheVariants as fired
use Rattle.reset_model.specs.declared.plan.Seen.TheVariants.{Wave}
use Rattle.reset_model.specs.LocalSteps.{first_fired}

-- an event that is enabled where E holds leaves these registers, and completes a reset, and restarts the local state,
-- or not
abbrev pub IsWaveFired : Result Fired StepRefusal → Type 0 → WaveRegs → Bool → Bool → Type 0
IsWaveFired (Ok (fired.Tree own)) E regs completes restarts = ⊥
IsWaveFired (Ok (fired.Wave move)) E regs completes restarts =
    E × (move.regs ≡ regs) × (move.completes ≡ completes) × (move.restarts ≡ restarts)
IsWaveFired (Err NotEnabled) E regs completes restarts = E → ⊥
IsWaveFired (Err StrangeNode) E regs completes restarts = ⊥
IsWaveFired (Err StrangeNeighbour) E regs completes restarts = ⊥
IsWaveFired (Err NoSuchCase) E regs completes restarts = ⊥
IsWaveFired (Err WantsNeighbour) E regs completes restarts = ⊥
IsWaveFired (Err TakesNoNeighbour) E regs completes restarts = ⊥
IsWaveFired (Err (Disagrees j)) E regs completes restarts = ⊥
IsWaveFired (Err NoMemory) E regs completes restarts = ⊥

-- the view of these parts
abbrev pub parts : ℕ → Phase → ℕ → FatherSeen → List (ℕ × WaveRegs) → LocalView
parts m p s f cs = record { own = record { phase = p; session = s }; father = f; children = cs; modulus = m }

pub request_fired : (m : ℕ) (p : Phase) (s : ℕ) (f : FatherSeen) (cs : List (ℕ × WaveRegs)) →
    IsWaveFired (first_fired (Wave (parts m p s f cs)) None (1 ∷ [])) (p ≡ Normal)
    (record { phase = Initiate; session = s }) false false
request_fired m Normal s f cs = (refl, refl, refl, refl)
request_fired m Initiate s f cs = λ e. cc
request_fired m Reset s f cs = λ e. cc

-- the named node is no child
pub relay_fired-stranger : (m : ℕ) (p : Phase) (s : ℕ) (f : FatherSeen) (cs : List (ℕ × WaveRegs)) (c : ℕ) (E : Type 0)
    (regs : WaveRegs) → regs_of c cs ≡ None → (E → ⊥) →
    IsWaveFired (first_fired (Wave (parts m p s f cs)) (Some c) (2 ∷ [])) E regs false false
relay_fired-stranger m p s f cs c E regs is none = rw is none

-- the named child is in phase q
pub relay_fired : (m : ℕ) (p : Phase) (s : ℕ) (f : FatherSeen) (cs : List (ℕ × WaveRegs)) (c : ℕ) (q : Phase) (u : ℕ)
    → regs_of c cs ≡ Some (record { phase = q; session = u }) →
    IsWaveFired (first_fired (Wave (parts m p s f cs)) (Some c) (2 ∷ [])) ((p ≡ Normal) × (q ≡ Initiate))
    (record { phase = Initiate; session = s }) false false
relay_fired m Normal s f cs c Initiate u is = rw is ((refl, refl), refl, refl, refl)
relay_fired m Normal s f cs c Normal u is = rw is (λ e. let h = e.1 in cc)
relay_fired m Normal s f cs c Reset u is = rw is (λ e. let h = e.1 in cc)
relay_fired m Initiate s f cs c q u is = rw is (λ e. let h = e.0 in cc)
relay_fired m Reset s f cs c q u is = rw is (λ e. let h = e.0 in cc)

pub open_fired : (m : ℕ) (p : Phase) (s : ℕ) (f : FatherSeen) (cs : List (ℕ × WaveRegs)) →
    IsWaveFired (first_fired (Wave (parts m p s f cs)) None (3 ∷ [])) ((f ≡ Itself) × (p ≡ Initiate))
    (record { phase = Reset; session = next_session m s }) false true
open_fired m Initiate s Itself cs = ((refl, refl), refl, refl, refl)
open_fired m Initiate s Lost cs = λ e. let h = e.0 in cc
open_fired m Initiate s (Is up) cs = λ e. let h = e.0 in cc
open_fired m Normal s Itself cs = λ e. let h = e.1 in cc
open_fired m Normal s Lost cs = λ e. let h = e.1 in cc
open_fired m Normal s (Is up) cs = λ e. let h = e.1 in cc
open_fired m Reset s Itself cs = λ e. let h = e.1 in cc
open_fired m Reset s Lost cs = λ e. let h = e.1 in cc
open_fired m Reset s (Is up) cs = λ e. let h = e.1 in cc

-- the father is reset in the next session
pub record IsInvited (m : ℕ) (p : Phase) (s : ℕ) (f : FatherSeen) : Type 0 where
  pub up : WaveRegs
  pub father : f ≡ Is up
  pub reset : is_reset up.phase ≡ true
  pub awake : is_reset p ≡ false
  pub next : up.session ≡ next_session m s

pub join_fired : (m : ℕ) (p : Phase) (s : ℕ) (f : FatherSeen) (cs : List (ℕ × WaveRegs)) →
    IsWaveFired (first_fired (Wave (parts m p s f cs)) None (4 ∷ 5 ∷ [])) (IsInvited m p s f)
    (record { phase = Reset; session = (father_regs (record { phase = p; session = s }) f).session }) false true
join_fired m p s Itself cs = λ e. let h = e.father in cc
join_fired m p s Lost cs = λ e. let h = e.father in cc
join_fired m p s (Is up) cs = at p up.phase up.session (eqb_tells up.session (next_session m s))
  where
    up_of : {q : Phase} {u : ℕ} {p : Phase} (e : IsInvited m p s (Is (record { phase = q; session = u })))
        → record { phase = q; session = u } ≡ e.up
    up_of e = let h = e.father in cc

    asleep : {A : Type 0} {q : Phase} {u : ℕ} {p : Phase} → IsInvited m p s (Is (record { phase = q; session = u }))
        → is_reset q ≡ false → A
    asleep e not_reset = absurd (true≢false (sym e.reset ∙ sym (ap (λ r. is_reset r.phase) (up_of e)) ∙ not_reset))

    at : (p q : Phase) (u : ℕ)
        → ((nat_eq u (next_session m s) ≡ true) × (u ≡ next_session m s))
        ⊎ ((nat_eq u (next_session m s) ≡ false) × (u ≢ next_session m s)) →
        IsWaveFired (first_fired (Wave (parts m p s (Is (record { phase = q; session = u })) cs)) None (4 ∷ 5 ∷ []))
        (IsInvited m p s (Is (record { phase = q; session = u }))) (record { phase = Reset; session = u }) false
        true
    at p Normal u t = λ e. asleep e refl
    at p Initiate u t = λ e. asleep e refl
    at Normal Reset u (inl t) =
        rw t.0 (
          record {
            up = record { phase = Reset; session = u };
            father = refl;
            reset = refl;
            awake = refl;
            next = t.1;
          },
          refl,
          refl,
          refl,
        )
    at Normal Reset u (inr t) = rw t.0 (λ e. t.1 (ap (λ r. r.session) (up_of e) ∙ e.next))
    at Initiate Reset u (inl t) =
        rw t.0 (
          record {
            up = record { phase = Reset; session = u };
            father = refl;
            reset = refl;
            awake = refl;
            next = t.1;
          },
          refl,
          refl,
          refl,
        )
    at Initiate Reset u (inr t) = rw t.0 (λ e. t.1 (ap (λ r. r.session) (up_of e) ∙ e.next))
    at Reset Reset u t = λ e. absurd (true≢false e.awake)

pub finish_fired : (m : ℕ) (p : Phase) (s : ℕ) (f : FatherSeen) (cs : List (ℕ × WaveRegs)) (done : Bool)
    → children_done s cs ≡ done →
    IsWaveFired (first_fired (Wave (parts m p s f cs)) None (6 ∷ 7 ∷ [])) ((p ≡ Reset) × (done ≡ true))
    (record { phase = Normal; session = s }) (is_root f) false
finish_fired m Normal s f cs done is = idle f
  where
    idle : (f : FatherSeen)
        → IsWaveFired (first_fired (Wave (parts m Normal s f cs)) None (6 ∷ 7 ∷ [])) ((Normal ≡ Reset) × (done ≡ true))
        (record { phase = Normal; session = s }) (is_root f) false
    idle Itself = λ e. let h = e.0 in cc
    idle Lost = λ e. let h = e.0 in cc
    idle (Is up) = λ e. let h = e.0 in cc
finish_fired m Initiate s f cs done is = idle f
  where
    idle : (f : FatherSeen)
        → IsWaveFired (first_fired (Wave (parts m Initiate s f cs)) None (6 ∷ 7 ∷ []))
        ((Initiate ≡ Reset) × (done ≡ true))
        (record { phase = Normal; session = s }) (is_root f) false
    idle Itself = λ e. let h = e.0 in cc
    idle Lost = λ e. let h = e.0 in cc
    idle (Is up) = λ e. let h = e.0 in cc
finish_fired m Reset s Itself cs true is = rw is ((refl, refl), refl, refl, refl)
finish_fired m Reset s Lost cs true is = rw is ((refl, refl), refl, refl, refl)
finish_fired m Reset s (Is up) cs true is = rw is ((refl, refl), refl, refl, refl)
finish_fired m Reset s Itself cs false is = rw is (λ e. let h = e.1 in cc)
finish_fired m Reset s Lost cs false is = rw is (λ e. let h = e.1 in cc)
finish_fired m Reset s (Is up) cs false is = rw is (λ e. let h = e.1 in cc)

-- the registers of a node, and the father's, contradict the wave
pub data Contradict (m : ℕ) (p : Phase) (s : ℕ) (up : WaveRegs) : Type 0 where
  one_reset : is_reset up.phase ≡ false → is_reset p ≡ true → Contradict m p s up
  other_number : is_reset up.phase ≡ false → is_reset p ≡ false → s ≢ up.session → Contradict m p s up
  both_reset : is_reset up.phase ≡ true → is_reset p ≡ true → s ≢ up.session → Contradict m p s up
  too_late : is_reset up.phase ≡ true → is_reset p ≡ false → up.session ≢ s → up.session ≢ next_session m s
      → Contradict m p s up

-- the father is a neighbour with which the node's registers contradict the wave
pub record IsTorn (m : ℕ) (p : Phase) (s : ℕ) (f : FatherSeen) : Type 0 where
  pub up : WaveRegs
  pub father : f ≡ Is up
  pub contradict : Contradict m p s up

clash : {A : Type 0} {b : Bool} → b ≡ true → b ≡ false → A
clash yes_is no_is = absurd (true≢false (sym yes_is ∙ no_is))

-- registers that agree with the wave
agree_awake : {m : ℕ} {p : Phase} {s : ℕ} {up : WaveRegs} → is_reset p ≡ false → is_reset up.phase ≡ false → s ≡ up.session
    → Contradict m p s up → ⊥
agree_awake own above same (one_reset f g) = clash g own
agree_awake own above same (other_number f g h) = h same
agree_awake own above same (both_reset f g h) = clash f above
agree_awake own above same (too_late f g h k) = clash f above

agree_reset : {m : ℕ} {p : Phase} {s : ℕ} {up : WaveRegs} → is_reset p ≡ true → is_reset up.phase ≡ true → s ≡ up.session
    → Contradict m p s up → ⊥
agree_reset own above same (one_reset f g) = clash above f
agree_reset own above same (other_number f g h) = clash above f
agree_reset own above same (both_reset f g h) = h same
agree_reset own above same (too_late f g h k) = clash own g

agree_late : {m : ℕ} {p : Phase} {s : ℕ} {up : WaveRegs} → is_reset p ≡ false → is_reset up.phase ≡ true
    → (up.session ≡ s) ⊎ (up.session ≡ next_session m s) → Contradict m p s up → ⊥
agree_late own above same (one_reset f g) = clash above f
agree_late own above same (other_number f g h) = clash above f
agree_late own above same (both_reset f g h) = clash g own
agree_late own above (inl same) (too_late f g h k) = h same
agree_late own above (inr same) (too_late f g h k) = k same

pub mend_fired : (m : ℕ) (p : Phase) (s : ℕ) (f : FatherSeen) (cs : List (ℕ × WaveRegs)) →
    IsWaveFired (first_fired (Wave (parts m p s f cs)) None (8 ∷ 9 ∷ 10 ∷ 11 ∷ [])) (IsTorn m p s f)
    (father_regs (record { phase = p; session = s }) f) false false
mend_fired m p s Itself cs = λ e. let h = e.father in cc
mend_fired m p s Lost cs = λ e. let h = e.father in cc
mend_fired m p s (Is up) cs =
    at (is_reset p) (is_reset up.phase) refl refl (eqb_tells s up.session) (eqb_tells up.session s)
    (eqb_tells up.session (next_session m s))
  where
    torn : (Contradict m p s up → ⊥) → IsTorn m p s (Is up) → ⊥
    torn none e = none (subst (Contradict m p s) (let h = e.father in let k : e.up ≡ up = cc in k) e.contradict)

    tear : Contradict m p s up → IsTorn m p s (Is up)
    tear c = record { up = up; father = refl; contradict = c }

    at : (b d : Bool) → is_reset p ≡ b → is_reset up.phase ≡ d
        → ((nat_eq s up.session ≡ true) × (s ≡ up.session)) ⊎ ((nat_eq s up.session ≡ false) × (s ≢ up.session))
        → ((nat_eq up.session s ≡ true) × (up.session ≡ s)) ⊎ ((nat_eq up.session s ≡ false) × (up.session ≢ s))
        → ((nat_eq up.session (next_session m s) ≡ true) × (up.session ≡ next_session m s))
        ⊎ ((nat_eq up.session (next_session m s) ≡ false) × (up.session ≢ next_session m s))
        → IsWaveFired (first_fired (Wave (parts m p s (Is up) cs)) None (8 ∷ 9 ∷ 10 ∷ 11 ∷ [])) (IsTorn m p s (Is up)) up
        false false
    at true false own above t u v = rw (own, above) (tear (one_reset above own), refl, refl, refl)
    at false false own above (inl t) u v = rw (own, above, t.0) (torn (agree_awake own above t.1))
    at false false own above (inr t) u v =
        rw (own, above, t.0) (tear (other_number above own t.1), refl, refl, refl)
    at true true own above (inl t) u v = rw (own, above, t.0) (torn (agree_reset own above t.1))
    at true true own above (inr t) u v =
        rw (own, above, t.0) (tear (both_reset above own t.1), refl, refl, refl)
    at false true own above t (inl u) v = rw (own, above, u.0) (torn (agree_late own above (inl u.1)))
    at false true own above t (inr u) (inl v) = rw (own, above, u.0, v.0) (torn (agree_late own above (inr v.1)))
    at false true own above t (inr u) (inr v) =
        rw (own, above, u.0, v.0) (tear (too_late above own u.1 v.1), refl, refl, refl)
