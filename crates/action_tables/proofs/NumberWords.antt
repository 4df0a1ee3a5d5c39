-- The words that spell numbers: digits, of which the first is no zero where more follow.
use Rattle.std.proofs.Common.{◌≡◌, ℕ, zero, suc, ◌<◌, ◌^◌, ◌⊎◌, inl, inr, List}
use Rattle.std.proofs.Common.{refl, sym, ap, ◌∙◌, arith, rules, length, get_or}
use Rattle.std.specs.Fmt.{decimal}
use Rattle.std.specs.Str.Parse.{AllDigits, digits_value}
use Rattle.std.proofs.lemmas.Fmt.{decimal_is_IsNumeral, decimal_digit, decimal-digits_value, first_decimal}
use Rattle.std.proofs.lemmas.Str.Parse.{IsNumeralModel, numerals_by_value, tells_digits}

-- a word is empty, or has a zero before its digits
abbrev pub IsEmptyOrPadded : List ℕ → Type 0
IsEmptyOrPadded w = (length w ≡ 0) ⊎ ((get_or w 0 0 ≡ 48) × (1 < length w))

own : IsNumeralModel (AllDigits 10) (digits_value 10)
own = numerals_by_value (AllDigits 10) tells_digits

decimal_short : (n : ℕ) → n < 2 ^ 64 → get_or (decimal n) 0 0 ≡ 48 → 1 < length (decimal n) → ⊥
decimal_short zero h e long = omega (arith, ap length (decimal_digit 0 (search rules)))
decimal_short (suc n) h e long = omega (arith, first_decimal (suc n) (search rules) (omega arith))

-- no decimal spelling is so
pub decimal_plain : (n : ℕ) → n < 2 ^ 32 → IsEmptyOrPadded (decimal n) → ⊥
decimal_plain n h (inl none) = omega (arith, none, (decimal_is_IsNumeral n (omega arith)).0.0)
decimal_plain n h (inr zeros) = decimal_short n (omega arith) zeros.0 zeros.1

pub positive : (n : ℕ) → (n ≡ 0 → ⊥) → 0 < n
positive zero some = absurd (some refl)
positive (suc n) some = omega arith

only_one : (n : ℕ) → 0 < n → (1 < n → ⊥) → n ≡ 1
only_one zero some short = absurd (omega (arith, some))
only_one (suc zero) some short = refl
only_one (suc (suc n)) some short = absurd (short (omega arith))

read_found : (w : List ℕ) → (IsEmptyOrPadded w → ⊥) → AllDigits 10 w → digits_value 10 w < 2 ^ 32
    → w ≡ decimal (digits_value 10 w)
read_found w plain digits small =
    let some : 0 < length w = positive (length w) (λ none. plain (inl none)) in
    let short : get_or w 0 0 ≡ 48 → length w ≡ 1 =
    λ zero. only_one (length w) some (λ long. plain (inr (zero, long))) in
    sym (decimal-digits_value own w digits some short (omega (arith, small)))

-- what is read of digits is the number that the word spells, where it has 32 bits
pub found_number : (w : List ℕ) (n : ℕ) → (IsEmptyOrPadded w → ⊥) → AllDigits 10 w × (n ≡ digits_value 10 w)
    → n < 2 ^ 32 → w ≡ decimal n
found_number w n plain found small =
    read_found w plain found.0 (omega (arith, found.1, small)) ∙ ap decimal (sym found.1)
