-- A text is that of one local state, or of none.
use Rattle.std.proofs.Common.{◌≡◌, ◌↔◌, ℕ, ◌-◌, ◌==◌, Bool, true, false, List, Some, length, get_or, refl, sym, ap, ◌∙◌}
use Rattle.std.proofs.Common.{arith}
use Rattle.std.specs.List.{Contains}
use Rattle.app_interface.specs.PrintableWord.{IsPrintableWord}
use Rattle.app_interface.proofs.OneText.{one_of_listed}
use Rattle.app_mutex.specs.LocalText.{local_states, local_text, mutex_from_text}
use Rattle.app_mutex.specs.declared.local.MutexLocal.{MutexLocal}

-- the local state of a text: its first byte is `i` where the node is in, and its last byte is the bit
abbrev spelled : List ℕ → MutexLocal
spelled text = record { inside = get_or text 0 0 == 105; bit = get_or text (length text - 1) 0 == 49 }

spelled_text : (inside bit : Bool)
    → spelled (local_text (record { inside = inside; bit = bit })) ≡ record { inside = inside; bit = bit }
spelled_text true true = refl
spelled_text true false = refl
spelled_text false true = refl
spelled_text false false = refl

same_text : (a b : MutexLocal) → Unit {0} → Unit {0} → local_text a ≡ local_text b → a ≡ b
same_text a b la lb e = sym (spelled_text a.inside a.bit) ∙ ap spelled e ∙ spelled_text b.inside b.bit

-- where a local state stands among all of them
among : (inside bit : Bool) → Contains local_states (record { inside = inside; bit = bit })
among false false = (0, omega arith, refl)
among false true = (1, omega arith, refl)
among true false = (2, omega arith, refl)
among true true = (3, omega arith, refl)

-- one local state a text
pub one_mutex_text : (t : List ℕ) (local : MutexLocal)
    → (mutex_from_text t ≡ Some local ↔ Unit {0} × (local_text local ≡ t))
one_mutex_text t local =
    one_of_listed {IsLocal = λ v. Unit {0}} {text = local_text} {is_local = λ v. true} (λ v. (λ e. tt, λ u. refl))
    same_text t local_states (λ v is spelled. among v.inside v.bit) local

-- the text of a local state is one word
pub mutex_word : (local : MutexLocal) → Unit {0} → IsPrintableWord (local_text local)
mutex_word local is = of local.inside local.bit
  where
    of : (inside bit : Bool) → IsPrintableWord (local_text (record { inside = inside; bit = bit }))
    of true true = ((λ e. absurd (omega (arith, ap length e))), refl)
    of true false = ((λ e. absurd (omega (arith, ap length e))), refl)
    of false true = ((λ e. absurd (omega (arith, ap length e))), refl)
    of false false = ((λ e. absurd (omega (arith, ap length e))), refl)
