-- What a first line says: a version with its modulus, another version, or neither.
use Rattle.std.proofs.Common.{◌≡◌, ◌≢◌, ℕ, ◌<◌, ◌^◌, List, [], ◌∷◌, ◌++◌, ⊎_elim, refl, sym, ap, subst, ◌∙◌, arith}
use Rattle.std.specs.Prelude.{codes}
use Rattle.std.specs.Fmt.{decimal}
use Rattle.std.proofs.lemmas.Bool.{cases_eq}
use Rattle.std.proofs.lemmas.Fmt.{decimal_digit, decimal_injective, decimal_step}
use Rattle.std.proofs.lemmas.List.{append_cancel_left}
use Rattle.action_tables.specs.Cuts.{HasNo}
use Rattle.action_tables.specs.LawsOfCuts.{HasNo-append, HasNo-decimal, has_byte, same_cut}
use Rattle.action_tables.specs.Modulus.{IsModulus}
use Rattle.history.specs.HistoryText.{IsFirstLine, IsOtherVersion, version_1, version_2, version_3, version_line}
use Rattle.history.specs.Reading.{IsBadVersion, NamesModulus}
use Rattle.history.specs.declared.text.BookFault.TheVariants.{BadLine}
use Rattle.reset_model.proofs.PlainLines.{letters, number}
use Rattle.history.proofs.HistoryLines.{printed_word}

-- ---- first lines

-- the first line that names a version and goes on with a modulus
abbrev pub modulus_line : ℕ → ℕ → List ℕ
modulus_line version m = codes "reset-history " ++ (decimal version ++ 32 ∷ decimal m)

-- a first line of version 1 names it alone, and one of version 2 or 3 its modulus too
data IsNamed (v m : ℕ) (line : List ℕ) : Type 0 where
  alone : v ≡ 1 → m ≡ 4294967296 → line ≡ version_line 1 → IsNamed v m line
  further : NamesModulus v → IsModulus m → line ≡ modulus_line v m → IsNamed v m line

pub first_is : version_line 1 ≡ codes "reset-history 1"
first_is = ap (λ word. codes "reset-history " ++ word) (decimal_digit 1 (omega arith))

second_is : (m : ℕ) → modulus_line 2 m ≡ codes "reset-history 2 " ++ decimal m
second_is m = ap (λ word. codes "reset-history " ++ (word ++ 32 ∷ decimal m)) (decimal_digit 2 (omega arith))

third_is : (m : ℕ) → modulus_line 3 m ≡ codes "reset-history 3 " ++ decimal m
third_is m = ap (λ word. codes "reset-history " ++ (word ++ 32 ∷ decimal m)) (decimal_digit 3 (omega arith))

named : (v m : ℕ) (line : List ℕ) → IsFirstLine v m line → IsNamed v m line
named v m line (version_1 one wide is) = alone one wide (is ∙ sym first_is)
named v m line (version_2 two counted is) =
    further (omega (arith, two), omega (arith, two)) counted
    (is ∙ sym (second_is m) ∙ ap (λ n. modulus_line n m) (sym two))
named v m line (version_3 three counted is) =
    further (omega (arith, three), omega (arith, three)) counted
    (is ∙ sym (third_is m) ∙ ap (λ n. modulus_line n m) (sym three))

-- and such a line is one
names : (v m : ℕ) (line : List ℕ) → NamesModulus v → IsModulus m → line ≡ modulus_line v m → IsFirstLine v m line
names v m line which counted is =
    ⊎_elim
    (λ (two : v ≡ 2). version_2 two counted (is ∙ ap (λ n. modulus_line n m) two ∙ second_is m))
    (λ (other : v ≢ 2).
    let three : v ≡ 3 = omega (arith, which.0, which.1, other) in
    version_3 three counted (is ∙ ap (λ n. modulus_line n m) three ∙ third_is m))
    (cases_eq v 2)

no_space : (v : ℕ) → v < 2 ^ 32 → HasNo 32 (decimal v)
no_space v small = HasNo-decimal 32 v (λ digit. omega (arith, digit.0)) (omega (arith, small))

-- a word without a space isn't one that goes on after a space
goes_past : (line word rest : List ℕ) → HasNo 32 line → line ≡ word ++ 32 ∷ rest → ⊥
goes_past line word rest plain is = has_byte 32 word rest (subst (HasNo 32) is plain)

-- a line that names a version alone isn't one that goes on
pub apart : (v w m : ℕ) → v < 2 ^ 32 → version_line v ≡ modulus_line w m → ⊥
apart v w m small is =
    goes_past (decimal v) (decimal w) (decimal m) (no_space v small)
    (append_cancel_left (codes "reset-history ") (decimal v) (decimal w ++ 32 ∷ decimal m) is)

pub version_plain : (v : ℕ) → v < 2 ^ 32 → HasNo 10 (version_line v)
version_plain v small =
    HasNo-append 10 (codes "reset-history ") (decimal v) (letters (codes "reset-history ") refl) (number v small)

pub first_plain : (v m : ℕ) (line : List ℕ) → IsFirstLine v m line → HasNo 10 line
first_plain v m line first = by_name (named v m line first)
  where
    by_name : IsNamed v m line → HasNo 10 line
    by_name (alone one wide is) = subst (HasNo 10) (sym is) (version_plain 1 (omega arith))
    by_name (further which counted is) =
        subst (HasNo 10) (sym is)
        (HasNo-append 10 (codes "reset-history ") (decimal v ++ 32 ∷ decimal m) (letters (codes "reset-history ") refl)
        (HasNo-append 10 (decimal v) (32 ∷ decimal m) (number v (omega (arith, which.1)))
        ((λ e. omega (arith, e)), HasNo-decimal 10 m (λ digit. omega (arith, digit.0)) (omega (arith, counted.wide)))))

-- a first line has one version and one modulus
pub record SameNames (v w m n : ℕ) : Type 0 where
  pub version : v ≡ w
  pub modulus : m ≡ n

pub same_names : (v w m n : ℕ) (line : List ℕ) → IsFirstLine v m line → IsFirstLine w n line → SameNames v w m n
same_names v w m n line first first' = by_name (named v m line first) (named w n line first')
  where
    by_name : IsNamed v m line → IsNamed w n line → SameNames v w m n
    by_name (alone one wide is) (alone one' wide' is') =
        record { version = one ∙ sym one'; modulus = wide ∙ sym wide' }
    by_name (alone one wide is) (further which counted is') = absurd (apart 1 w n (omega arith) (sym is ∙ is'))
    by_name (further which counted is) (alone one wide is') = absurd (apart 1 v m (omega arith) (sym is' ∙ is))
    by_name (further which counted is) (further which' counted' is') =
        let small : v < 2 ^ 32 = omega (arith, which.1) in
        let small' : w < 2 ^ 32 = omega (arith, which'.1) in
        let same =
        same_cut 32 (decimal v) (decimal w) (decimal m) (decimal n) (no_space v small) (no_space w small')
        (append_cancel_left (codes "reset-history ") (decimal v ++ 32 ∷ decimal m) (decimal w ++ 32 ∷ decimal n)
        (sym is ∙ is')) in
        record {
          version = decimal_injective v w (omega (arith, small)) (omega (arith, small')) same.prefix;
          modulus =
              decimal_injective m n (omega (arith, counted.wide)) (omega (arith, counted'.wide)) same.back;
        }

-- and isn't that of another version
pub no_other : (v m other : ℕ) (line : List ℕ) → IsFirstLine v m line → IsOtherVersion other
    → line ≡ version_line other → ⊥
no_other v m other line first is_other spelled = by_name (named v m line first)
  where
    by_name : IsNamed v m line → ⊥
    by_name (alone one wide is) =
        is_other.not_1
        (decimal_injective other 1 (omega (arith, is_other.small)) (omega arith)
        (append_cancel_left (codes "reset-history ") (decimal other) (decimal 1) (sym spelled ∙ is)))
    by_name (further which counted is) = apart other v m is_other.small (sym spelled ∙ is)

-- the greatest modulus is spelled so
pub decimal_wide : decimal 4294967296 ≡ codes "4294967296"
decimal_wide =
    decimal_step 4294967296 (omega arith) (omega arith) ∙ ap (λ l. l ++ 54 ∷ [])
    (decimal_step 429496729 (omega arith) (omega arith) ∙ ap (λ l. l ++ 57 ∷ [])
    (decimal_step 42949672 (omega arith) (omega arith) ∙ ap (λ l. l ++ 50 ∷ [])
    (decimal_step 4294967 (omega arith) (omega arith) ∙ ap (λ l. l ++ 55 ∷ [])
    (decimal_step 429496 (omega arith) (omega arith) ∙ ap (λ l. l ++ 54 ∷ [])
    (decimal_step 42949 (omega arith) (omega arith) ∙ ap (λ l. l ++ 57 ∷ [])
    (decimal_step 4294 (omega arith) (omega arith) ∙ ap (λ l. l ++ 52 ∷ [])
    (decimal_step 429 (omega arith) (omega arith) ∙ ap (λ l. l ++ 57 ∷ [])
    (decimal_step 42 (omega arith) (omega arith) ∙ ap (λ l. l ++ 50 ∷ [])
    (decimal_digit 4 (omega arith))))))))))

-- ---- its words

-- a first line has this word and goes on
abbrev HasWord : List ℕ → Type 0
HasWord line = (rest : List ℕ) × (line ≡ codes "reset-history" ++ 32 ∷ rest)

first_word : (v m : ℕ) (line : List ℕ) → IsFirstLine v m line → HasWord line
first_word v m line first = by_name (named v m line first)
  where
    by_name : IsNamed v m line → HasWord line
    by_name (alone one wide is) = (decimal 1, is)
    by_name (further which counted is) = (decimal v ++ 32 ∷ decimal m, is)

pub no_word : (line : List ℕ) → (HasWord line → ⊥) → IsBadVersion line (BadLine 1)
no_word line none =
    (refl, (λ v m first. none (first_word v m line first)), (λ v other spelled. none (decimal v, spelled)))

-- a line of one word has none
pub one_word : (line : List ℕ) → HasNo 32 line → HasWord line → ⊥
one_word line plain (rest, is) = has_byte 32 (codes "reset-history") rest (subst (HasNo 32) is plain)

-- and one that begins with another word neither
pub other_word : (line word rest : List ℕ) → HasNo 32 word → line ≡ word ++ 32 ∷ rest → HasWord line
    → word ≡ codes "reset-history"
other_word line word rest plain is (rest', is') =
    (same_cut 32 word (codes "reset-history") rest rest' plain (printed_word (codes "reset-history") refl)
    (sym is ∙ is')).prefix

module _ (word : List ℕ) (plain : HasNo 32 word) where
  -- of the lines that name a version alone that of version 1 names a modulus
  one_alone : (v m : ℕ) → IsFirstLine v m (codes "reset-history " ++ word) → word ≡ decimal 1
  one_alone v m first = by_name (named v m (codes "reset-history " ++ word) first)
    where
      by_name : IsNamed v m (codes "reset-history " ++ word) → word ≡ decimal 1
      by_name (alone one wide is) = append_cancel_left (codes "reset-history ") word (decimal 1) is
      by_name (further which counted is) =
          absurd (goes_past word (decimal v) (decimal m) plain
          (append_cancel_left (codes "reset-history ") word (decimal v ++ 32 ∷ decimal m) is))

  other_alone : (v : ℕ) → codes "reset-history " ++ word ≡ version_line v → word ≡ decimal v
  other_alone v is = append_cancel_left (codes "reset-history ") word (decimal v) is

  pub version_one : word ≡ decimal 1 → IsFirstLine 1 4294967296 (codes "reset-history " ++ word)
  version_one is = version_1 refl refl (ap (λ w. codes "reset-history " ++ w) is ∙ first_is)

  -- versions 2 and 3 aren't named alone
  pub wants_modulus : (v : ℕ) → NamesModulus v → word ≡ decimal v
      → IsBadVersion (codes "reset-history " ++ word) (BadLine 1)
  wants_modulus v which is = (
    refl,
    (λ w m first.
        let same : v ≡ 1 =
        decimal_injective v 1 (omega (arith, which.1)) (omega arith) (sym is ∙ one_alone w m first) in
        omega (arith, same, which.0)),
    (λ w other spelled.
        let same : w ≡ v =
        decimal_injective w v (omega (arith, other.small)) (omega (arith, which.1)) (sym (other_alone w spelled) ∙ is) in
        omega (arith, same, which.0, which.1, other.not_2, other.not_3)),
  )

  pub no_number : ((n : ℕ) → n < 2 ^ 32 → word ≡ decimal n → ⊥)
      → IsBadVersion (codes "reset-history " ++ word) (BadLine 1)
  no_number none = (
    refl,
    (λ v m first. none 1 (omega arith) (one_alone v m first)),
    (λ v other spelled. none v other.small (other_alone v spelled)),
  )

  -- of those that name a version and go on those of versions 2 and 3 do, with a modulus
  record NamesBoth (modulus : List ℕ) (v m : ℕ) : Type 0 where
    which : NamesModulus v
    counted : IsModulus m
    version : word ≡ decimal v
    spelled : modulus ≡ decimal m

  both_named : (modulus : List ℕ) (v m : ℕ) → IsFirstLine v m (codes "reset-history " ++ (word ++ 32 ∷ modulus))
      → NamesBoth modulus v m
  both_named modulus v m first = by_name (named v m (codes "reset-history " ++ (word ++ 32 ∷ modulus)) first)
    where
      by_name : IsNamed v m (codes "reset-history " ++ (word ++ 32 ∷ modulus)) → NamesBoth modulus v m
      by_name (alone one wide is) =
          absurd (goes_past (decimal 1) word modulus (no_space 1 (omega arith))
          (sym (append_cancel_left (codes "reset-history ") (word ++ 32 ∷ modulus) (decimal 1) is)))
      by_name (further which counted is) =
          let same =
          same_cut 32 word (decimal v) modulus (decimal m) plain (no_space v (omega (arith, which.1)))
          (append_cancel_left (codes "reset-history ") (word ++ 32 ∷ modulus) (decimal v ++ 32 ∷ decimal m) is) in
          record { which = which; counted = counted; version = same.prefix; spelled = same.back }

  none_further : (modulus : List ℕ) (v : ℕ) → IsOtherVersion v
      → codes "reset-history " ++ (word ++ 32 ∷ modulus) ≡ version_line v → ⊥
  none_further modulus v other is =
      goes_past (decimal v) word modulus (no_space v other.small)
      (sym (append_cancel_left (codes "reset-history ") (word ++ 32 ∷ modulus) (decimal v) is))

  pub names_modulus : (modulus : List ℕ) (v m : ℕ) → NamesModulus v → IsModulus m → word ≡ decimal v
      → modulus ≡ decimal m → IsFirstLine v m (codes "reset-history " ++ (word ++ 32 ∷ modulus))
  names_modulus modulus v m which counted version spelled =
      names v m (codes "reset-history " ++ (word ++ 32 ∷ modulus)) which counted
      (ap (λ w. codes "reset-history " ++ (w ++ 32 ∷ modulus)) version
      ∙ ap (λ w. codes "reset-history " ++ (decimal v ++ 32 ∷ w)) spelled)

  pub other_version : (modulus : List ℕ) → ((v : ℕ) → NamesModulus v → word ≡ decimal v → ⊥)
      → IsBadVersion (codes "reset-history " ++ (word ++ 32 ∷ modulus)) (BadLine 1)
  other_version modulus none = (
    refl,
    (λ v m first. let both = both_named modulus v m first in none v both.which both.version),
    (λ v other is. none_further modulus v other is),
  )

  pub no_modulus : (modulus : List ℕ) → ((m : ℕ) → IsModulus m → modulus ≡ decimal m → ⊥)
      → IsBadVersion (codes "reset-history " ++ (word ++ 32 ∷ modulus)) (BadLine 1)
  no_modulus modulus none = (
    refl,
    (λ v m first. let both = both_named modulus v m first in none m both.counted both.spelled),
    (λ v other is. none_further modulus v other is),
  )
