-- Which texts are one word of a line.
use Rattle.std.proofs.Common.{◌≡◌, ℕ, ◌<◌, ◌≤◌, ◌^◌, leb, inl, inr, ◌&&◌, true, List, [], ◌∷◌, ◌++◌, All, map, length}
use Rattle.std.proofs.Common.{refl, ap, ap₂, ◌∙◌, arith}
use Rattle.std.specs.Char.{digit_value, is_ascii_graphic}
use Rattle.std.specs.Fmt.{decimal}
use Rattle.std.specs.List.{AllByRecursion, join_with_byte, list_all}
use Rattle.std.specs.Str.Parse.{AllDigits}
use Rattle.std.proofs.lemmas.Fmt.{decimal_is_IsNumeral}
use Rattle.std.proofs.lemmas.List.Elements.{recursion_from_All}
use Rattle.std.proofs.lemmas.List.Folds.{list_all-append}
use Rattle.std.proofs.lemmas.Bool.Decides.{leb_tells}
use Rattle.std.proofs.lemmas.Str.Parse.{digit_from_value}
use Rattle.action_tables.specs.Lists.{list_text}
use Rattle.app_interface.specs.PrintableWord.{IsPrintableWord}

pub IsPrintableWord-append : (xs ys : List ℕ) → IsPrintableWord xs → list_all is_ascii_graphic ys ≡ true
    → IsPrintableWord (xs ++ ys)
IsPrintableWord-append [] ys word more = absurd (word.0 refl)
IsPrintableWord-append (x ∷ xs) ys word more = (
  (λ e. absurd (omega (arith, ap length e))),
  list_all-append is_ascii_graphic (x ∷ xs) ys ∙ ap₂ (λ a b. a && b) word.1 more,
)

-- ---- numbers

within : (a b : ℕ) → a ≤ b → leb a b ≡ true
within a b h = elim (leb_tells a b) [ inl is ↦ is.0 | inr not ↦ absurd (omega (arith, h, not.1)) ]

graphic_digit : (c : ℕ) → digit_value c < 10 → is_ascii_graphic c ≡ true
graphic_digit c digit =
    let range = digit_from_value c digit in
    ap₂ (λ a b. a && b) (within 33 c (omega (arith, range.0))) (within c 126 (omega (arith, range.1)))

graphic_digits : (digits : List ℕ) → AllDigits 10 digits → list_all is_ascii_graphic digits ≡ true
graphic_digits [] are = refl
graphic_digits (c ∷ digits) are = ap₂ (λ a b. a && b) (graphic_digit c are.0) (graphic_digits digits are.1)

pub IsPrintableWord-decimal : (n : ℕ) → n < 2 ^ 64 → IsPrintableWord (decimal n)
IsPrintableWord-decimal n small =
    let numeral = decimal_is_IsNumeral n small in
    ((λ e. absurd (omega (arith, numeral.0.0, ap length e))), graphic_digits (decimal n) numeral.0.1)

-- ---- words joined by a byte, and lists

pub IsPrintableWord-joined : (byte : ℕ) (word : List ℕ) (words : List (List ℕ)) → is_ascii_graphic byte ≡ true
    → AllByRecursion IsPrintableWord (word ∷ words)
    → IsPrintableWord (join_with_byte byte (word ∷ words))
IsPrintableWord-joined byte word [] is all = all.0
IsPrintableWord-joined byte word (next ∷ words) is all =
    IsPrintableWord-append word (byte ∷ join_with_byte byte (next ∷ words)) all.0
    (ap₂ (λ a b. a && b) is (IsPrintableWord-joined byte next words is all.1).1)

module _ {X : Type 0} (IsItem : X → Type 0) (text : X → List ℕ) (word : (x : X) → IsItem x → IsPrintableWord (text x))
  where
    texts : (xs : List X) → AllByRecursion IsItem xs → AllByRecursion IsPrintableWord (map text xs)
    texts [] all = tt
    texts (x ∷ xs) all = (word x all.0, texts xs all.1)

    pub IsPrintableWord-list : (xs : List X) → All IsItem xs → IsPrintableWord (list_text text xs)
    IsPrintableWord-list [] all = ((λ e. absurd (omega (arith, ap length e))), refl)
    IsPrintableWord-list (x ∷ xs) all =
        IsPrintableWord-joined 44 (text x) (map text xs) refl (texts (x ∷ xs) (recursion_from_All IsItem (x ∷ xs) all))
