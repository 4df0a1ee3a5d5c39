-- The text of a set is that of its first number, and of those above it.
use Rattle.std.proofs.Common.{◌≡◌, ℕ, zero, suc, ◌+◌, ◌<◌, Bool, true, false, cond, ◌&&◌, nat_lt, List, [], ◌∷◌, ◌++◌}
use Rattle.std.proofs.Common.{Some, refl, sym, ap, ◌∙◌, arith, slice_get}
use Rattle.std.specs.List.{filter, flat_map, range_with_len}
use Rattle.std.specs.Fmt.{decimal}
use Rattle.std.proofs.lemmas.Bool.Decides.{nat_tests}
use Rattle.action_tables.specs.Numbers.{is_among, all_cases}
use Rattle.action_tables.specs.RowText.{case_above, set_text}
use Rattle.action_tables.proofs.ListTexts.{list_text-cons}

-- what f makes of x, where it is kept and above n
abbrev above : (ℕ → Bool) → (ℕ → List ℕ) → ℕ → ℕ → List ℕ
above p f n x = cond (p x && nat_lt n x) (f x) []

is_above : (n a : ℕ) → n < a → nat_lt n a ≡ true
is_above n a h = grind (arith, nat_tests)

is_not_above : (n : ℕ) → nat_lt n n ≡ false
is_not_above n = grind (arith, nat_tests)

-- past n all that is kept is above it
all_above : (p : ℕ → Bool) (f : ℕ → List ℕ) (n a k : ℕ) → n < a
    → flat_map (above p f n) (range_with_len a k) ≡ flat_map f (filter p (range_with_len a k))
all_above p f n a zero low = refl
all_above p f n a (suc k) low =
    let rest = all_above p f n (a + 1) k (omega arith) in
    let test = is_above n a low in
    elim (p a)
    as (λ b. cond (b && nat_lt n a) (f a) [] ++ flat_map (above p f n) (range_with_len (a + 1) k)
    ≡ flat_map f (cond b (a ∷ filter p (range_with_len (a + 1) k)) (filter p (range_with_len (a + 1) k)))) [
      | true ↦ rw test (ap (λ l. f a ++ l) rest)
      | false ↦ rest
    ]

first_is : (x n : ℕ) (xs ns : List ℕ) → x ∷ xs ≡ n ∷ ns → x ≡ n
first_is x n xs ns h = cc

rest_is : (x n : ℕ) (xs ns : List ℕ) → x ∷ xs ≡ n ∷ ns → xs ≡ ns
rest_is x n xs ns h = cc

-- above the first that is kept are the others
others_above : (p : ℕ → Bool) (f : ℕ → List ℕ) (n : ℕ) (ns : List ℕ) (a k : ℕ) → filter p (range_with_len a k) ≡ n ∷ ns
    → flat_map (above p f n) (range_with_len a k) ≡ flat_map f ns
others_above p f n ns a zero h = cc
others_above p f n ns a (suc k) h =
    let rest = others_above p f n ns (a + 1) k in
    (elim (p a)
    as (λ b. cond b (a ∷ filter p (range_with_len (a + 1) k)) (filter p (range_with_len (a + 1) k)) ≡ n ∷ ns
    → cond (b && nat_lt n a) (f a) [] ++ flat_map (above p f n) (range_with_len (a + 1) k) ≡ flat_map f ns) [
      | true ↦ λ e.
          let same = first_is a n _ ns e in
          let test : nat_lt n a ≡ false = ap (nat_lt n) same ∙ is_not_above n in
          rw test (all_above p f n (a + 1) k (omega (arith, same)) ∙ ap (flat_map f) (rest_is a n _ ns e))
      | false ↦ λ e. rest e
    ]) h

cases_ranged : all_cases ≡ range_with_len 1 16
unfolding all_cases
cases_ranged = refl

-- all cases, as the program spells them
abbrev pub spelled : List ℕ
spelled = 1 ∷ 2 ∷ 3 ∷ 4 ∷ 5 ∷ 6 ∷ 7 ∷ 8 ∷ 9 ∷ 10 ∷ 11 ∷ 12 ∷ 13 ∷ 14 ∷ 15 ∷ 16 ∷ []

pub cases_spelled : spelled ≡ all_cases
unfolding all_cases
cases_spelled = refl

others_of : (p : ℕ → Bool) (f : ℕ → List ℕ) (n : ℕ) (ns cases : List ℕ) → cases ≡ range_with_len 1 16
    → n ∷ ns ≡ filter p cases → flat_map (above p f n) cases ≡ flat_map f ns
others_of p f n ns cases is h =
    ap (flat_map (above p f n)) is ∙ others_above p f n ns 1 16 (sym (h ∙ ap (filter p) is))

-- the text of a set that has a first number
pub text_from : (set cases : List ℕ) (n : ℕ) → cases ≡ all_cases → set ≡ filter (λ c. is_among c set) all_cases
    → slice_get set 0 ≡ Some n → set_text set ≡ decimal n ++ flat_map (case_above set n) cases
text_from [] cases n is listed first = cc
text_from (m ∷ ns) cases n is listed first =
    let same : m ≡ n = cc in
    list_text-cons decimal m ns ∙ ap (λ x. decimal x ++ flat_map (λ y. 44 ∷ decimal y) ns) same
    ∙ ap (λ l. decimal n ++ l)
    (sym (others_of (λ c. is_among c (m ∷ ns)) (λ y. 44 ∷ decimal y) n ns cases (is ∙ cases_ranged)
    (ap (λ x. x ∷ ns) (sym same) ∙ listed ∙ ap (filter (λ c. is_among c (m ∷ ns))) (sym is))))
