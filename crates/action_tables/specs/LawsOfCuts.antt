-- A text is cut at its first such byte in one way.
use Rattle.std.proofs.Common.{◌≡◌, ℕ, ◌-◌, ◌<◌, ◌≤◌, ◌^◌, List, [], ◌∷◌, ◌++◌, refl, sym, ap, ◌∙◌, subst, arith}
use Rattle.std.proofs.Common.{drop, get_or, length, take}
use Rattle.std.proofs.lemmas.List.{take_all}
use Rattle.std.specs.Fmt.{decimal}
use Rattle.std.specs.Int.{IsInRange}
use Rattle.std.specs.Str.Parse.{AllDigits}
use Rattle.std.proofs.lemmas.Fmt.{decimal_is_IsNumeral}
use Rattle.std.proofs.lemmas.Str.Parse.{digit_from_value}
use Rattle.action_tables.specs.Cuts.{HasNo}

pub HasNo-append : (byte : ℕ) (xs ys : List ℕ) → HasNo byte xs → HasNo byte ys → HasNo byte (xs ++ ys)
HasNo-append byte [] ys none more = more
HasNo-append byte (x ∷ xs) ys none more = (none.0, HasNo-append byte xs ys none.1 more)

-- a text with the byte has it
pub has_byte : (byte : ℕ) (xs ys : List ℕ) → HasNo byte (xs ++ byte ∷ ys) → ⊥
has_byte byte [] ys none = none.0 refl
has_byte byte (x ∷ xs) ys none = has_byte byte xs ys none.1

-- a text is cut at its first such byte in one way
pub record SameCut (xs xs' ys ys' : List ℕ) : Type 0 where
  pub prefix : xs ≡ xs'
  pub back : ys ≡ ys'

-- a text that has a byte begins with its first
pub begins_with : (left : List ℕ) (b : ℕ) → 1 ≤ length left → get_or left 0 0 ≡ b
    → left ≡ b ∷ take (length left - 1) (drop 1 left)
begins_with [] b some is = absurd (omega (arith, some))
begins_with (c ∷ cs) b some is =
    ap (λ x. x ∷ cs) is ∙ ap (λ l. b ∷ l) (sym (take_all (length (c ∷ cs) - 1) cs (omega arith)))

-- equal lists begin alike and go on alike
pub first_of : (x y : ℕ) (xs ys : List ℕ) → ◌≡◌ {A = List ℕ} (x ∷ xs) (y ∷ ys) → x ≡ y
first_of x y xs ys e = cc

pub rest_of : (x y : ℕ) (xs ys : List ℕ) → ◌≡◌ {A = List ℕ} (x ∷ xs) (y ∷ ys) → xs ≡ ys
rest_of x y xs ys e = cc

pub same_cut : (byte : ℕ) (xs xs' ys ys' : List ℕ) → HasNo byte xs → HasNo byte xs'
    → xs ++ byte ∷ ys ≡ xs' ++ byte ∷ ys' → SameCut xs xs' ys ys'
same_cut byte [] [] ys ys' none none' e = record { prefix = refl; back = rest_of byte byte ys ys' e }
same_cut byte [] (x ∷ xs') ys ys' none none' e = absurd (none'.0 (sym (first_of byte x ys (xs' ++ byte ∷ ys') e)))
same_cut byte (x ∷ xs) [] ys ys' none none' e = absurd (none.0 (first_of x byte (xs ++ byte ∷ ys) ys' e))
same_cut byte (x ∷ xs) (x' ∷ xs') ys ys' none none' e =
    let first : x ≡ x' = first_of x x' (xs ++ byte ∷ ys) (xs' ++ byte ∷ ys') e in
    let cut = same_cut byte xs xs' ys ys' none.1 none'.1 (rest_of x x' (xs ++ byte ∷ ys) (xs' ++ byte ∷ ys') e) in
    record { prefix = ap (λ l. x ∷ l) cut.prefix ∙ ap (λ c. c ∷ xs') first; back = cut.back }

-- three texts that a text in three parts is made of
pub record SameParts (xs xs' ys ys' zs zs' : List ℕ) : Type 0 where
  pub first : xs ≡ xs'
  pub second : ys ≡ ys'
  pub third : zs ≡ zs'

-- a text in three parts that are joined by a byte, cut at the first such byte
module _ (byte : ℕ) (xs ys zs text first rest : List ℕ) (none : HasNo byte xs)
    (joined : xs ++ byte ∷ (ys ++ byte ∷ zs) ≡ text) (cut : text ≡ first ++ byte ∷ rest) (none' : HasNo byte first)
  where
    at_first : SameCut xs first (ys ++ byte ∷ zs) rest
    at_first = same_cut byte xs first (ys ++ byte ∷ zs) rest none none' (joined ∙ cut)

    -- what is left has another
    pub has_second : HasNo byte rest → ⊥
    has_second none'' = has_byte byte ys zs (subst (HasNo byte) (sym at_first.back) none'')

    -- cut at the next one, it has the three parts
    pub same_parts : (second third : List ℕ) → HasNo byte ys → rest ≡ second ++ byte ∷ third → HasNo byte second
        → SameParts xs first ys second zs third
    same_parts second third none-ys cut' none-second =
        let at_second = same_cut byte ys second zs third none-ys none-second (at_first.back ∙ cut') in
        record { first = at_first.prefix; second = at_second.prefix; third = at_second.back }

no_such_digit : (byte : ℕ) (ds : List ℕ) → (IsInRange 48 57 byte → ⊥) → AllDigits 10 ds → HasNo byte ds
no_such_digit byte [] other h = tt
no_such_digit byte (d ∷ ds) other h =
    (λ e. other (subst (IsInRange 48 57) e (digit_from_value d h.0)), no_such_digit byte ds other h.1)

-- the digits of a number are from 48 to 57
pub HasNo-decimal : (byte n : ℕ) → (IsInRange 48 57 byte → ⊥) → n < 2 ^ 64 → HasNo byte (decimal n)
HasNo-decimal byte n other small = no_such_digit byte (decimal n) other (decimal_is_IsNumeral n small).0.1
