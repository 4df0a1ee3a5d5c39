-- How often events stand in lists that go on, and what finishes add to a draft.
use Rattle.std.proofs.Common.{◌≡◌, ℕ, ◌+◌, Bool, true, false, cond, if◌then◌else◌, List, [], ◌∷◌, ◌++◌, ◌⊎◌, inl, inr}
use Rattle.std.proofs.Common.{refl, sym, ap, subst, ◌∙◌, ⊎_elim, true≢false, arith, append_assoc, append-nil}
use Rattle.std.proofs.lemmas.Bool.{cases_Bool, cases_eq, eq-eqb, ne_eqb}
use Rattle.app_interface.specs.Application.{App}
use Rattle.topology.specs.Graph.{IsNode}
use Rattle.wave_layer.specs.declared.regs.WaveRegs.{WaveRegs}
use Rattle.wave_layer.specs.WaveTable.{is_reset}
use Rattle.reset_model.specs.declared.event.Event.{Event}
use Rattle.reset_model.specs.declared.event.Event.TheVariants.{Finish, Open}
use Rattle.reset_model.specs.Completion.{is_open_at, times}
use Rattle.reset_model.specs.Configuration.{Configuration, wave_of}
use Rattle.reset_model.specs.Steps.{reset_at}
use Rattle.recovery.specs.Drafts.{DraftView, Tried}
use Rattle.recovery.specs.Mended.{KeepsTree}
use Rattle.recovery.specs.Recovered.{CompletesOnce, is_finish_at}
use Rattle.recovery.specs.Resetting.{EndsBy, OpensLast, is_at}
use Rattle.recovery.proofs.WaveMoves.{Moved, moved, node_on}

-- ---- lists

pub times_append : (p : Event → Bool) (xs ys : List Event) → times p (xs ++ ys) ≡ times p xs + times p ys
times_append p [] ys = let none : times p [] ≡ 0 = refl in omega (arith, none)
times_append p (x ∷ xs) ys = let rest = times_append p xs ys in omega (arith, rest)

pub times_of_one : (p : Event → Bool) (e : Event) (b : Bool) → p e ≡ b → times p (e ∷ []) ≡ cond b 1 0
times_of_one p e true is = ap (λ b. (if b then 1 else 0) + 0) is
times_of_one p e false is = ap (λ b. (if b then 1 else 0) + 0) is

-- where none is at i, none opens or finishes there
silent : (i : ℕ) (p : Event → Bool) → ((e : Event) → p e ≡ true → is_at i e ≡ true) → (es : List Event)
    → times (is_at i) es ≡ 0 → times p es ≡ 0
silent i p to [] none = refl
silent i p to (e ∷ es) none = first (silent i p to es) (cases_Bool (p e))
  where
    first : (times (is_at i) es ≡ 0 → times p es ≡ 0) → (p e ≡ true) ⊎ (p e ≡ false) → times p (e ∷ es) ≡ 0
    first rest (inl is) =
        let one : (if is_at i e then 1 else 0) ≡ 1 =
        ap (λ (b : Bool). let n : ℕ = if b then 1 else 0 in n) (to e is) in
        absurd (omega (arith, none, one))
    first rest (inr is) =
        let here : (if p e then 1 else 0) ≡ 0 = ap (λ (b : Bool). let n : ℕ = if b then 1 else 0 in n) is in
        let later = rest (omega (arith, none)) in
        omega (arith, here, later)

open_is_at : (i : ℕ) (e : Event) → is_open_at i e ≡ true → is_at i e ≡ true
open_is_at i (Open k) is = is
open_is_at i e is = absurd (true≢false (sym is))

finish_is_at : (i : ℕ) (e : Event) → is_finish_at i e ≡ true → is_at i e ≡ true
finish_is_at i (Finish k) is = is
finish_is_at i e is = absurd (true≢false (sym is))

-- events elsewhere leave which one is the last at i
pub opens_still : (es es' more : List Event) (i : ℕ) → OpensLast es i → es' ≡ es ++ more → times (is_at i) more ≡ 0
    → OpensLast es' i
opens_still es es' more i (before, after, split, last) added none = (
  before,
  after ++ more,
  added ∙ ap (λ l. l ++ more) split ∙ append_assoc before (Open i ∷ after) more,
  times_append (is_at i) after more ∙ omega (arith, last, none),
)

-- finishes after the last opening
pub completes_once : (es es' more : List Event) (i : ℕ) → OpensLast es i → es' ≡ es ++ more
    → times (is_open_at i) more ≡ 0 → times (is_finish_at i) more ≡ 1 → CompletesOnce es' i
completes_once es es' more i (before, after, split, last) added closed once =
    let no_open = silent i (is_open_at i) (open_is_at i) after last in
    let no_finish = silent i (is_finish_at i) (finish_is_at i) after last in (
      before,
      after ++ more,
      added ∙ ap (λ l. l ++ more) split ∙ append_assoc before (Open i ∷ after) more,
      times_append (is_open_at i) after more ∙ omega (arith, no_open, closed),
      times_append (is_finish_at i) after more ∙ omega (arith, no_finish, once),
    )

-- ---- finishes of a draft

pub ends_itself : {L : Type 0} (c : Configuration L) (es : List Event) → EndsBy c c es es
ends_itself c es = record {
  more = [];
  added = sym (append-nil es);
  closed = λ i. refl;
  once = λ i node is. sym (ap (λ (b : Bool). let n : ℕ = cond b 0 1 in n) is);
}

module _ {L : Type 0} (app : App L) (c : Configuration L) (v v' : DraftView L) (es : List Event) (at : ℕ)
    (keeps : KeepsTree c v.config) (so_far : EndsBy c v.config es v.events) where
  finish_count : (i : ℕ) → IsNode c.graph i → reset_at (wave_of c) i ≡ true → Moved app v.config (Finish at) v'.config
      → times (is_finish_at i) (so_far.more ++ Finish at ∷ []) ≡ cond (reset_at (wave_of v'.config) i) 0 1
  finish_count i node is step =
      let whole = times_append (is_finish_at i) so_far.more (Finish at ∷ []) in
      let was = so_far.once i node is in
      let Left : Bool → ℕ = λ b. cond b 0 1 in
      ⊎_elim
      (λ same.
      let P : ℕ → Type 0 = λ k. reset_at (wave_of v.config) k ≡ true in
      let Q : ℕ → Type 0 = λ k. reset_at (wave_of v'.config) k ≡ false in
      let before : reset_at (wave_of v.config) i ≡ true = subst P (sym same) (ap is_reset step.enabled.reset) in
      let after : reset_at (wave_of v'.config) i ≡ false =
      subst Q (sym same) (ap (λ (r : WaveRegs). is_reset r.phase) step.here) in
      let one = times_of_one (is_finish_at i) (Finish at) true (eq-eqb at i (sym same)) in
      let none = ap Left before in
      let done = ap Left after in
      omega (arith, whole, was, one, none, done))
      (λ other.
      let there = node_on c v.config keeps i node in
      let zero = times_of_one (is_finish_at i) (Finish at) false (ne_eqb at i (λ same. other (sym same))) in
      let stays = ap (λ (r : WaveRegs). Left (is_reset r.phase)) (step.others i there other) in
      omega (arith, whole, was, zero, stays))
      (cases_eq i at)

  pub tried_ends : Tried app v (Finish at) v' → EndsBy c v'.config es v'.events
  tried_ends (inl did) = record {
    more = so_far.more ++ Finish at ∷ [];
    added = did.1 ∙ ap (λ l. l ++ Finish at ∷ []) so_far.added ∙ append_assoc es so_far.more (Finish at ∷ []);
    closed = λ i. times_append (is_open_at i) so_far.more (Finish at ∷ []) ∙ omega (arith, so_far.closed i);
    once = λ i node is. finish_count i node is (moved app v.config v'.config (Finish at) refl refl did.0);
  }
  tried_ends (inr none) =
      let P : DraftView L → Type 0 = λ d. EndsBy c d.config es d.events in subst P (sym none.1) so_far
