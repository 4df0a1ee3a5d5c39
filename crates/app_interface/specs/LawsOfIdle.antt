-- Laws of the application without cases.
use Rattle.std.proofs.Common.{◌≡◌, ◌↔◌, ℕ, ◌≤◌, Bool, true, false, true≢false, cond, List, Option, None, Some, length}
use Rattle.std.proofs.Common.{refl, sym, ap, arith}
use Rattle.std.specs.Prelude.{codes}
use Rattle.std.specs.Str.{bytes_eq}
use Rattle.std.proofs.lemmas.Slice.Eq.{bytes_eq-Decides}
use Rattle.std.proofs.lemmas.Option.{none-some}
use Rattle.topology.specs.Graph.{Graph, IsGraph}
use Rattle.app_interface.specs.Cases.{AreCases, IsCase}
use Rattle.app_interface.specs.Invariant.{IsQuiet, Keeps}
use Rattle.app_interface.specs.PrintableWord.{IsPrintableWord}
use Rattle.app_interface.specs.Idle.{idle, idle_from_text}

no_case : (n : ℕ) → IsCase 0 n → ⊥
no_case n h = omega (arith, h.first, h.last)

pub idle_cases : AreCases 0 (λ n. None) (λ n. None)
idle_cases = record {
  few = omega arith;
  named = λ n. (λ h. absurd (true≢false (sym h)), λ h. absurd (no_case n h));
  read = λ n. (λ h. absurd (true≢false (sym h)), λ h. absurd (no_case n h));
  distinct = λ m n name h k. absurd (none-some name h);
  lettered = λ n name h. absurd (none-some name h);
}

-- one local state a text
pub one_idle_text : (t : List ℕ) (local : Unit {0}) → (idle_from_text t ≡ Some local ↔ Unit {0} × (codes "-" ≡ t))
one_idle_text t tt =
    (λ e. (tt, dash (bytes_eq (codes "-") t) refl e), λ p. rw ((bytes_eq-Decides (codes "-") t).1 p.1) refl)
  where
    dash : (b : Bool) → bytes_eq (codes "-") t ≡ b → ◌≡◌ {A = Option (Unit {0})} (cond b (Some tt) None) (Some tt)
        → codes "-" ≡ t
    dash true is e = (bytes_eq-Decides (codes "-") t).0 is
    dash false is e = absurd (none-some tt e)

-- and it is one word
pub idle_word : (local : Unit {0}) → Unit {0} → IsPrintableWord (codes "-")
idle_word local is = ((λ e. absurd (omega (arith, ap length e))), refl)

pub idle_keeps : (g : Graph) (bound : ℕ) → IsGraph g → length g.ids ≤ bound → Keeps idle g bound (λ v. Unit {0})
idle_keeps g bound are few = record {
  same = λ v v' h inv. tt;
  starts = tt;
  acts = λ i case with v v' h inv. tt;
}

pub idle_quiet : (g : Graph) (bound : ℕ) → IsGraph g → length g.ids ≤ bound → IsQuiet idle g bound (λ v. Unit {0})
idle_quiet g bound are few = record { at = λ v inv i j linked. refl }
