-- The texts of a bit.
use Rattle.std.proofs.Common.{◌≡◌, ◌↔◌, ℕ, Bool, true, false, List, Option, Some, None, get_or, length, refl, sym, ap}
use Rattle.std.proofs.Common.{◌∙◌, arith}
use Rattle.std.specs.Prelude.{◌==◌, ◌∷◌, [], codes}
use Rattle.std.specs.List.{Contains, find}
use Rattle.std.specs.Str.{bytes_eq}
use Rattle.app_interface.specs.PrintableWord.{IsPrintableWord}
use Rattle.app_interface.proofs.OneText.{one_of_listed}

abbrev pub bit_text : Bool → List ℕ
bit_text true = codes "1"
bit_text false = codes "0"

abbrev bits : List Bool
bits = true ∷ false ∷ []

-- the bit with the text, if one has it
abbrev pub bit_from_text : List ℕ → Option Bool
bit_from_text text = find (λ bit. bytes_eq (bit_text bit) text) bits

same_text : (a b : Bool) → Unit {0} → Unit {0} → bit_text a ≡ bit_text b → a ≡ b
same_text a b la lb e = sym (back a) ∙ ap (λ text. get_or text 0 0 == 49) e ∙ back b
  where
    back : (bit : Bool) → (get_or (bit_text bit) 0 0 == 49) ≡ bit
    back true = refl
    back false = refl

among : (bit : Bool) → Contains bits bit
among true = (0, omega arith, refl)
among false = (1, omega arith, refl)

pub one_bit_text : (t : List ℕ) (bit : Bool) → (bit_from_text t ≡ Some bit ↔ Unit {0} × (bit_text bit ≡ t))
one_bit_text t bit =
    one_of_listed {IsLocal = λ b. Unit {0}} {text = bit_text} {is_local = λ b. true} (λ b. (λ e. tt, λ u. refl))
    same_text t bits (λ b is spelled. among b) bit

pub bit_word : (bit : Bool) → Unit {0} → IsPrintableWord (bit_text bit)
bit_word true is = ((λ e. absurd (omega (arith, ap length e))), refl)
bit_word false is = ((λ e. absurd (omega (arith, ap length e))), refl)
