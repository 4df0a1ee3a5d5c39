-- Steps taken in turn.
use Rattle.std.proofs.Common.{◌≡◌, ◌≢◌, ℕ, zero, suc, ◌<◌, length, slice_index_or, arith, false, true≢false, List, [], ◌∷◌, ◌++◌, refl, sym, subst, ap, ◌∙◌}
use Rattle.app_interface.specs.Application.{App}
use Rattle.reset_model.specs.declared.event.Event.{Event}
use Rattle.reset_model.specs.Configuration.{Configuration}
use Rattle.reset_model.specs.MachineSteps.{IsStep}
use Rattle.recovery.specs.Drafts.{Leads, is_memory}
use Rattle.reset_model.specs.declared.step.StepRefusal.{StepRefusal}
use Rattle.reset_model.specs.declared.step.StepRefusal.TheVariants.{NoMemory}

-- one step more
pub leads_on : {L : Type 0} (app : App L) (c m c' : Configuration L) (es : List Event) (e : Event)
    → Leads app c es m → IsStep app m e c' → Leads app c (es ++ e ∷ []) c'
leads_on {L} app c m c' [] e is step =
    let P : Configuration L → Type 0 = λ k. IsStep app k e c' in (c', subst P is step, refl)
leads_on app c m c' (x ∷ es) e is step = (is.0, is.1, leads_on app is.0 m c' es e is.2 step)

-- the same of a list that grew by the event
pub leads_more : {L : Type 0} (app : App L) (c m c' : Configuration L) (es more : List Event) (e : Event)
    → Leads app c es m → IsStep app m e c' → more ≡ es ++ e ∷ [] → Leads app c more c'
leads_more {L} app c m c' es more e is step grew =
    let P : List Event → Type 0 = λ l. Leads app c l c' in subst P (sym grew) (leads_on app c m c' es e is step)

pub no_memory : (f : StepRefusal) → is_memory f ≡ false → f ≢ NoMemory
no_memory f is same = true≢false (sym (ap is_memory same) ∙ is)

-- an item of a list, whatever stands for one behind its end
pub same_item : (xs : List ℕ) (k d e : ℕ) → k < length xs → slice_index_or xs k d ≡ slice_index_or xs k e
same_item [] k d e low = absurd (omega (arith, low))
same_item (x ∷ xs) zero d e low = refl
same_item (x ∷ xs) (suc k) d e low = same_item xs k d e (omega (arith, low))
