-- The digits that a text begins with.
use Rattle.std.proofs.Common.{◌≡◌, ℕ, zero, suc, ◌+◌, ◌*◌, ◌-◌, ◌<◌, ◌≤◌, ◌^◌, inl, inr, List, [], ◌∷◌, ◌++◌, Bor}
use Rattle.std.proofs.Common.{Option, None, Some, IfNone, refl, sym, ap, ap₂, ◌∙◌, subst, arith, rules, length, get_or}
use Rattle.std.proofs.Common.{take, drop, append_assoc, append-nil}
use Rattle.std.specs.Char.{digit_char, digit_value}
use Rattle.std.specs.Fmt.{decimal}
use Rattle.std.specs.Str.Parse.{AllDigits, digits_value, digits_value_after}
use Rattle.std.proofs.lemmas.Fmt.{decimal_digit, decimal_is_IsNumeral, first_decimal}
use Rattle.std.proofs.lemmas.List.{take_all}
use Rattle.std.proofs.lemmas.Str.Parse.{digit_from_value}
use Rattle.std.proofs.lemmas.Str.{digit_value-digit_char, digit_value_digit}
use Rattle.action_tables.specs.Cuts.{AreLeadingDigits, BeginsWithNoDigit}
use Rattle.action_tables.specs.LawsOfCuts.{SameCut, begins_with, first_of, rest_of}
use Rattle.action_tables.proofs.NumberWords.{IsEmptyOrPadded, found_number, positive}

-- ---- more digits

digits_then : (n : ℕ) (xs ys : List ℕ)
    → digits_value_after 10 n (xs ++ ys) ≡ digits_value_after 10 (digits_value_after 10 n xs) ys
digits_then n [] ys = refl
digits_then n (c ∷ cs) ys = digits_then (n * 10 + digit_value c) cs ys

value_grows : (n : ℕ) (ds : List ℕ) → n ≤ digits_value_after 10 n ds
value_grows n [] = omega arith
value_grows n (c ∷ cs) = omega (arith, value_grows (n * 10 + digit_value c) cs)

both_digits : (xs ys : List ℕ) → AllDigits 10 xs → AllDigits 10 ys → AllDigits 10 (xs ++ ys)
both_digits [] ys all more = more
both_digits (c ∷ cs) ys all more = (all.0, both_digits cs ys all.1 more)

-- ---- a text is cut behind its digits in one way

pub same_digits : (xs xs' ys ys' : List ℕ) → AllDigits 10 xs → AllDigits 10 xs' → BeginsWithNoDigit ys
    → BeginsWithNoDigit ys' → xs ++ ys ≡ xs' ++ ys' → SameCut xs xs' ys ys'
same_digits [] [] ys ys' all all' ends ends' e = record { prefix = refl; back = e }
same_digits [] (d ∷ ds) [] ys' all all' ends ends' e = absurd (cc)
same_digits [] (d ∷ ds) (b ∷ bs) ys' all all' ends ends' e =
    absurd (ends (subst (λ x. digit_value x < 10) (sym (first_of b d bs (ds ++ ys') e)) all'.0))
same_digits (c ∷ cs) [] ys [] all all' ends ends' e = absurd (cc)
same_digits (c ∷ cs) [] ys (b ∷ bs) all all' ends ends' e =
    absurd (ends' (subst (λ x. digit_value x < 10) (first_of c b (cs ++ ys) bs e) all.0))
same_digits (c ∷ cs) (d ∷ ds) ys ys' all all' ends ends' e =
    let first : c ≡ d = first_of c d (cs ++ ys) (ds ++ ys') e in
    let cut = same_digits cs ds ys ys' all.1 all'.1 ends ends' (rest_of c d (cs ++ ys) (ds ++ ys') e) in
    record { prefix = ap (λ l. c ∷ l) cut.prefix ∙ ap (λ x. x ∷ ds) first; back = cut.back }

-- digits that a text begins with are among all those
more_digits : (xs ys xs' ys' : List ℕ) → AllDigits 10 xs → BeginsWithNoDigit ys' → xs ++ ys ≡ xs' ++ ys'
    → (more : List ℕ) × (xs' ≡ xs ++ more)
more_digits [] ys xs' ys' all ends e = (xs', refl)
more_digits (c ∷ cs) ys [] [] all ends e = absurd (cc)
more_digits (c ∷ cs) ys [] (b ∷ bs) all ends e =
    absurd (ends (subst (λ x. digit_value x < 10) (first_of c b (cs ++ ys) bs e) all.0))
more_digits (c ∷ cs) ys (d ∷ ds) ys' all ends e =
    let (more, is) = more_digits cs ys ds ys' all.1 ends (rest_of c d (cs ++ ys) (ds ++ ys') e) in
    (more, ap (λ l. d ∷ l) is ∙ ap (λ x. x ∷ (cs ++ more)) (sym (first_of c d (cs ++ ys) (ds ++ ys') e)))

-- ---- the digits up to here

abbrev pub IsLedBy : List ℕ → ℕ → List ℕ → Type 0
IsLedBy text value left =
    (digits : List ℕ) × (text ≡ digits ++ left) × AllDigits 10 digits × (value ≡ digits_value 10 digits)

pub led_next : (text left : List ℕ) (value digit : ℕ) → IsLedBy text value left → 1 ≤ length left
    → digit ≡ digit_value (get_or left 0 0) → digit < 10
    → IsLedBy text (value * 10 + digit) (take (length left - 1) (drop 1 left))
led_next text [] value digit led some is small = absurd (omega (arith, some))
led_next text (c ∷ cs) value digit (digits, split, all, worth) some is small =
    let P : List ℕ → Type 0 = λ left. IsLedBy text (value * 10 + digit) left in
    subst P (sym (take_all (length (c ∷ cs) - 1) cs (omega arith))) (
      digits ++ c ∷ [],
      split ∙ sym (append_assoc digits (c ∷ []) cs),
      both_digits digits (c ∷ []) all (omega (arith, is, small), tt),
      ap₂ (λ v d. v * 10 + d) worth is ∙ sym (digits_then 0 digits (c ∷ [])),
    )

pub led_ends : (text left : List ℕ) (value : ℕ) → IsLedBy text value left → BeginsWithNoDigit left
    → AreLeadingDigits text value left
led_ends text left value (digits, split, all, worth) ends =
    record { digits = digits; split = split; all = all; worth = worth; ends = ends }

pub led_by_digit : (digit : ℕ) (text : List ℕ) → digit < 10 → IsLedBy (digit_char digit ∷ text) digit text
led_by_digit digit text small =
    let worth = digit_value-digit_char digit (omega (arith, small)) in
    (digit_char digit ∷ [], refl, (omega (arith, worth, small), tt), omega (arith, worth))

-- the value of more digits is greater
pub too_large : (text left : List ℕ) (value : ℕ) → IsLedBy text value left → 2 ^ 32 ≤ value → (n : ℕ) (rest : List ℕ)
    → n < 2 ^ 32 → AreLeadingDigits text n rest → ⊥
too_large text left value (digits, split, all, worth) large n rest small leading =
    let (more, is) = more_digits digits left leading.digits rest all leading.ends (sym split ∙ leading.split) in
    omega (
      arith,
      large,
      small,
      worth,
      leading.worth,
      ap (digits_value 10) is,
      digits_then 0 digits more,
      value_grows (digits_value 10 digits) more,
    )

-- ---- a zero before a text

without_zero : (text digits left : List ℕ) (value : ℕ) → 48 ∷ text ≡ digits ++ left → AllDigits 10 digits
    → value ≡ digits_value 10 digits → BeginsWithNoDigit left → AreLeadingDigits text value left
without_zero text [] [] value is all worth ends = absurd (cc)
without_zero text [] (b ∷ bs) value is all worth ends =
    absurd (ends (subst (λ x. digit_value x < 10) (first_of 48 b text bs is) (omega arith)))
without_zero text (c ∷ cs) left value is all worth ends =
    let none : digit_value c ≡ 0 = ap digit_value (sym (first_of 48 c text (cs ++ left) is)) in
    record {
      digits = cs;
      split = rest_of 48 c text (cs ++ left) is;
      all = all.1;
      worth = worth ∙ ap (λ v. digits_value_after 10 (0 * 10 + v) cs) none;
      ends = ends;
    }

pub zero_found : (text left : List ℕ) (value : ℕ) → AreLeadingDigits (48 ∷ text) value left
    → AreLeadingDigits text value left
zero_found text left value leading =
    without_zero text leading.digits left value leading.split leading.all leading.worth leading.ends

pub zero_leads : (text left : List ℕ) (value : ℕ) → AreLeadingDigits text value left
    → AreLeadingDigits (48 ∷ text) value left
zero_leads text left value leading =
    record {
      digits = 48 ∷ leading.digits;
      split = ap (λ l. 48 ∷ l) leading.split;
      all = (omega arith, leading.all);
      worth = leading.worth;
      ends = leading.ends;
    }

-- where they don't have 32 bits with it, they don't without
pub none_without_zero : (r : Option (ℕ × Bor (List ℕ))) (text : List ℕ)
    → IfNone r ((n : ℕ) (rest : List ℕ) → n < 2 ^ 32 → AreLeadingDigits (48 ∷ text) n rest → ⊥)
    → IfNone r ((n : ℕ) (rest : List ℕ) → n < 2 ^ 32 → AreLeadingDigits text n rest → ⊥)
none_without_zero None text none = λ n rest small leading. none n rest small (zero_leads text rest n leading)
none_without_zero (Some r) text none = tt

-- ---- a number that a byte ends

spelled : (text : List ℕ) (end n : ℕ) (rest : List ℕ) → 10 ≤ digit_value end → n < 2 ^ 32 → text ≡ decimal n ++ end ∷ rest
    → AreLeadingDigits text n (end ∷ rest)
spelled text end n rest other small is =
    let numeral = decimal_is_IsNumeral n (omega (arith, small)) in
    record {
      digits = decimal n;
      split = is;
      all = numeral.0.1;
      worth = sym numeral.1;
      ends = λ digit. omega (arith, other, digit);
    }

pub none_leads : (text : List ℕ) (end : ℕ) → 10 ≤ digit_value end
    → ((n : ℕ) (rest : List ℕ) → n < 2 ^ 32 → AreLeadingDigits text n rest → ⊥)
    → (n : ℕ) (rest : List ℕ) → n < 2 ^ 32 → text ≡ decimal n ++ end ∷ rest → ⊥
none_leads text end other none n rest small is = none n (end ∷ rest) small (spelled text end n rest other small is)

pub none_ended : (text : List ℕ) (end value : ℕ) (left : List ℕ) → 10 ≤ digit_value end
    → AreLeadingDigits text value left → ((rest : List ℕ) → left ≡ end ∷ rest → ⊥) → (n : ℕ) (rest : List ℕ)
    → n < 2 ^ 32 → text ≡ decimal n ++ end ∷ rest → ⊥
unfolding spelled
none_ended text end value left no_digit leading other n rest small is =
    let spelt = spelled text end n rest no_digit small is in
    let cut =
    same_digits leading.digits (decimal n) left (end ∷ rest) leading.all spelt.all leading.ends spelt.ends
    (sym leading.split ∙ is) in
    other rest cut.back

-- ---- a number that a byte ends, and its first digit

digit_char_of : (digit : ℕ) → digit < 10 → digit_char digit ≡ 48 + digit
digit_char_of digit small = search (arith, rules, small)

pub begins_with_digit : (text : List ℕ) (digit : ℕ) → 1 ≤ length text → digit ≡ digit_value (get_or text 0 0)
    → digit < 10 → text ≡ digit_char digit ∷ take (length text - 1) (drop 1 text)
begins_with_digit text digit some is small =
    let first = get_or text 0 0 in
    let code = digit_value_digit first (digit_from_value first (omega (arith, is, small))) in
    begins_with text (digit_char digit) some (omega (arith, is, code, digit_char_of digit small))

first_is_digit : (digits rest : List ℕ) → 0 < length digits → AllDigits 10 digits
    → digit_value (get_or (digits ++ rest) 0 0) < 10
first_is_digit [] rest some all = absurd (omega (arith, some))
first_is_digit (c ∷ cs) rest some all = all.0

pub none_begun : (text : List ℕ) (end : ℕ) → (digit_value (get_or text 0 0) < 10 → ⊥) → (n : ℕ) (rest : List ℕ)
    → n < 2 ^ 32 → text ≡ decimal n ++ end ∷ rest → ⊥
none_begun text end other n rest small is =
    let numeral = decimal_is_IsNumeral n (omega (arith, small)) in
    other (subst (λ t. digit_value (get_or t 0 0) < 10) (sym is)
    (first_is_digit (decimal n) (end ∷ rest) numeral.0.0 numeral.0.1))

pub one_digit : (digit end : ℕ) (rest after : List ℕ) → digit < 10 → rest ≡ end ∷ after
    → ◌≡◌ {A = List ℕ} (digit_char digit ∷ rest) (decimal digit ++ end ∷ after)
one_digit digit end rest after small is =
    rw (is, decimal_digit digit small, digit_char_of digit small) refl

zero_first : (rest digits left : List ℕ) → 48 ∷ rest ≡ digits ++ left → 48 < get_or digits 0 0 → ⊥
zero_first rest [] left is great = omega (arith, great)
zero_first rest (c ∷ cs) left is great = omega (arith, great, first_of 48 c rest (cs ++ left) is)

-- a zero is all of its number
pub none_padded : (rest : List ℕ) (end : ℕ) → ((after : List ℕ) → rest ≡ end ∷ after → ⊥) → (n : ℕ) (after : List ℕ)
    → n < 2 ^ 32 → 48 ∷ rest ≡ decimal n ++ end ∷ after → ⊥
none_padded rest end other zero after small is =
    other after
    (rest_of 48 48 rest (end ∷ after) (is ∙ ap (λ ds. ds ++ end ∷ after) (decimal_digit 0 (omega arith))))
none_padded rest end other (suc n) after small is =
    zero_first rest (decimal (suc n)) (end ∷ after) is (first_decimal (suc n) (omega arith) (omega (arith, small)))

not_padded : (first end : ℕ) (rest digits after : List ℕ) → 48 < first → digit_value first < 10 → 10 ≤ digit_value end
    → first ∷ rest ≡ digits ++ end ∷ after → IsEmptyOrPadded digits → ⊥
not_padded first end rest [] after great digit other is padded =
    omega (arith, digit, other, ap digit_value (first_of first end rest after is))
not_padded first end rest (c ∷ cs) after great digit other is (inl none) = omega (arith, none)
not_padded first end rest (c ∷ cs) after great digit other is (inr zeros) =
    omega (arith, great, zeros.0, first_of first c rest (cs ++ end ∷ after) is)

pub found_ended : (digit end value : ℕ) (rest left after : List ℕ) → digit < 10 → (digit ≡ 0 → ⊥)
    → 10 ≤ digit_value end → value < 2 ^ 32 → AreLeadingDigits (digit_char digit ∷ rest) value left → left ≡ end ∷ after
    → digit_char digit ∷ rest ≡ decimal value ++ end ∷ after
found_ended digit end value rest left after few some other small leading is =
    let split = leading.split ∙ ap (λ l. leading.digits ++ l) is in
    let great : 48 < digit_char digit = omega (arith, positive digit some, digit_char_of digit few) in
    let first : digit_value (digit_char digit) < 10 = omega (arith, few, digit_value-digit_char digit (omega (arith, few))) in
    let digits =
    found_number leading.digits value
    (not_padded (digit_char digit) end rest leading.digits after great first other split)
    (leading.all, leading.worth) small in
    split ∙ ap (λ ds. ds ++ end ∷ after) digits

-- ---- a number that is a whole word

whole : (word : List ℕ) (n : ℕ) → n < 2 ^ 32 → word ≡ decimal n → AreLeadingDigits word n []
whole word n small is =
    let numeral = decimal_is_IsNumeral n (omega (arith, small)) in
    record {
      digits = decimal n;
      split = is ∙ sym (append-nil (decimal n));
      all = numeral.0.1;
      worth = sym numeral.1;
      ends = tt;
    }

pub no_number : (word : List ℕ) → ((n : ℕ) (rest : List ℕ) → n < 2 ^ 32 → AreLeadingDigits word n rest → ⊥) → (n : ℕ)
    → n < 2 ^ 32 → word ≡ decimal n → ⊥
no_number word none n small is = none n [] small (whole word n small is)

pub not_whole : (word : List ℕ) (value : ℕ) (left : List ℕ) → AreLeadingDigits word value left → (length left ≡ 0 → ⊥)
    → (n : ℕ) → n < 2 ^ 32 → word ≡ decimal n → ⊥
unfolding whole
not_whole word value left leading more n small is =
    let other = whole word n small is in
    let same =
    same_digits leading.digits (decimal n) left [] leading.all other.all leading.ends tt
    (sym leading.split ∙ other.split) in
    more (ap length same.back)

pub whole_found : (word : List ℕ) (value : ℕ) (left : List ℕ) → AreLeadingDigits word value left → length left ≡ 0
    → value < 2 ^ 32 → (IsEmptyOrPadded word → ⊥) → word ≡ decimal value
whole_found word value [] leading none small plain =
    let is : word ≡ leading.digits = leading.split ∙ append-nil leading.digits in
    is ∙ found_number leading.digits value (λ padded. plain (subst IsEmptyOrPadded (sym is) padded))
    (leading.all, leading.worth) small
whole_found word value (c ∷ cs) leading none small plain = absurd (omega (arith, none))
