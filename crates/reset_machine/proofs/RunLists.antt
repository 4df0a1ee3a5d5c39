-- Runs that go on, event by event.
use Rattle.std.proofs.Common.{◌≡◌, ℕ, zero, suc, ◌<◌, List, [], ◌∷◌, ◌++◌, length, take, slice_index_or, refl, sym, ap}
use Rattle.std.proofs.Common.{◌∙◌, ◌+◌, add-one, length-append, subst, arith}
use Rattle.app_interface.specs.Application.{App}
use Rattle.reset_model.specs.declared.event.Event.{Event}
use Rattle.reset_model.specs.declared.step.Done.{Done}
use Rattle.reset_model.specs.Configuration.{Configuration}
use Rattle.reset_model.specs.Runs.{IsDone, IsRun}

-- a run goes on by one more event
pub IsRun-more : {L : Type 0} (app : App L) (c m c' : Configuration L) (es : List Event) (ds : List Done) (e : Event)
    (d : Done) → IsRun app c es ds m → IsDone app m e d c' → IsRun app c (es ++ e ∷ []) (ds ++ d ∷ []) c'
IsRun-more {L} app c m c' [] [] e d is step =
    (c', let P : Configuration L → Type 0 = λ k. IsDone app k e d c' in subst P is step, refl)
IsRun-more app c m c' [] (x ∷ ds) e d is step = absurd is
IsRun-more app c m c' (x ∷ es) [] e d is step = absurd is
IsRun-more app c m c' (x ∷ es) (y ∷ ds) e d is step = (is.0, is.1, IsRun-more app is.0 m c' es ds e d is.2 step)

pub take_more : {X : Type 0} (d : X) (xs : List X) (i : ℕ) → i < length xs
    → take (suc i) xs ≡ take i xs ++ slice_index_or xs i d ∷ []
take_more d [] i short = absurd (omega arith)
take_more d (x ∷ xs) zero short = refl
take_more d (x ∷ xs) (suc i) short = ap (λ l. x ∷ l) (take_more d xs i (omega arith))

-- the same of a list that is gone through by an index
pub run_more : {L : Type 0} (app : App L) (c m c' : Configuration L) (es : List Event) (ds more : List Done) (i : ℕ)
    (e : Event) (d : Done) → i < length es → IsRun app c (take i es) ds m → IsDone app m (slice_index_or es i e) d c'
    → more ≡ ds ++ d ∷ [] → IsRun app c (take (i + 1) es) more c'
run_more app c m c' es ds more i e d short so_far step pushed =
    let IsRunOf : List Event → List Done → Type 0 = λ es ds. IsRun app c es ds c' in
    let taken = ap (λ k. take k es) (add-one i) ∙ take_more e es i short in
    subst (λ xs. IsRunOf xs more) (sym taken)
    (subst (λ ys. IsRunOf (take i es ++ slice_index_or es i e ∷ []) ys) (sym pushed)
    (IsRun-more app c m c' (take i es) ds (slice_index_or es i e) d so_far step))

pub length_more : {X : Type 0} (xs more : List X) (x : X) (i : ℕ) → more ≡ xs ++ x ∷ [] → length xs ≡ i
    → length more ≡ i + 1
length_more xs more x i pushed same = ap length pushed ∙ length-append xs (x ∷ []) ∙ ap (λ n. n + 1) same
