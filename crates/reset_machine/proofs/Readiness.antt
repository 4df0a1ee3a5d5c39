-- When a set of rows of the wave table has one other than the request.
use Rattle.std.proofs.Common.{◌≡◌, ℕ, zero, suc, ◌+◌, ◌<◌, ◌≤◌, Bool, true, false, not, cond, ◌||◌, ◌==◌, nat_eq}
use Rattle.std.proofs.Common.{nat_lt, List, [], ◌∷◌, ◌++◌, length, take, slice_index, add-one, append-nil, refl, sym}
use Rattle.std.proofs.Common.{ap, ◌∙◌, true≢false, arith}
use Rattle.std.specs.List.{filter, list_any, range_with_len}
use Rattle.std.proofs.lemmas.Bool.{ne_eqb}
use Rattle.std.proofs.lemmas.Bool.Decides.{nat_tests}
use Rattle.action_tables.specs.Numbers.{all_cases}
use Rattle.reset_machine.specs.declared.enabled.Enabled.{Enabled}
use Rattle.reset_machine.specs.Enabled.{has_work}

-- some number other than 1
abbrev pub has_other : List ℕ → Bool
has_other ns = list_any (λ n. not (n == 1)) ns

some_more : (n : ℕ) → true ≡ nat_lt 0 (suc n)
some_more n = grind (arith, nat_tests)

-- of numbers above 1 each is another one
others_above : (p : ℕ → Bool) (a k : ℕ) → 2 ≤ a
    → has_other (filter p (range_with_len a k)) ≡ nat_lt 0 (length (filter p (range_with_len a k)))
others_above p a zero low = refl
others_above p a (suc k) low =
    let rest = others_above p (a + 1) k (omega arith) in
    let apart : nat_eq a 1 ≡ false = ne_eqb a 1 (λ e. omega (arith, e, low)) in
    elim (p a)
    as (λ b. has_other (cond b (a ∷ filter p (range_with_len (a + 1) k)) (filter p (range_with_len (a + 1) k)))
    ≡ nat_lt 0 (length (cond b (a ∷ filter p (range_with_len (a + 1) k)) (filter p (range_with_len (a + 1) k)))))
    [ true ↦ rw apart (some_more (length (filter p (range_with_len (a + 1) k)))) | false ↦ rest ]

one_more : (n : ℕ) → nat_lt 0 n ≡ nat_lt 1 (suc n)
one_more n = grind (arith, nat_tests)

-- before them stands 1, or it doesn't
with_one : (b : Bool) (ns : List ℕ) → has_other ns ≡ nat_lt 0 (length ns)
    → has_other (cond b (1 ∷ ns) ns) ≡ nat_lt (cond b 1 0) (length (cond b (1 ∷ ns) ns))
with_one true ns rest = rest ∙ one_more (length ns)
with_one false ns rest = rest

after_one : (p : ℕ → Bool) (ns : List ℕ) → has_other (filter p ns) ≡ nat_lt 0 (length (filter p ns))
    → has_other (filter p (1 ∷ ns)) ≡ nat_lt (cond (p 1) 1 0) (length (filter p (1 ∷ ns)))
after_one p ns rest = with_one (p 1) (filter p ns) rest

cases_split : all_cases ≡ 1 ∷ range_with_len 2 15
unfolding all_cases
cases_split = refl

-- a set of cases has another one than 1 where it has more than that
others_counted : (p : ℕ → Bool) → has_other (filter p all_cases) ≡ nat_lt (cond (p 1) 1 0) (length (filter p all_cases))
others_counted p =
    ap (λ cs. has_other (filter p cs)) cases_split
    ∙ after_one p (range_with_len 2 15) (others_above p 2 15 (omega arith))
    ∙ ap (λ cs. nat_lt (cond (p 1) 1 0) (length (filter p cs))) (sym cases_split)

any_true : (ns : List ℕ) → list_any (λ n. true) ns ≡ nat_lt 0 (length ns)
any_true [] = refl
any_true (n ∷ ns) = some_more (length ns)

-- a node has work where it has a row of the tree table, more rows of the wave table than the
-- request, or a case of the application
pub work_counted : (trees waves acts : List ℕ) (p : ℕ → Bool) → waves ≡ filter p all_cases
    → has_work trees waves acts
    ≡ (nat_lt 0 (length trees) || (nat_lt (cond (p 1) 1 0) (length waves) || nat_lt 0 (length acts)))
work_counted trees waves acts p listed =
    ap (λ b. b || (has_other waves || list_any (λ n. true) acts)) (any_true trees)
    ∙ ap (λ b. nat_lt 0 (length trees) || (b || list_any (λ n. true) acts))
    (ap has_other listed ∙ others_counted p ∙ ap (λ ns. nat_lt (cond (p 1) 1 0) (length ns)) (sym listed))
    ∙ ap (λ b. nat_lt 0 (length trees) || (nat_lt (cond (p 1) 1 0) (length waves) || b)) (any_true acts)

pub or_true : (b d : Bool) → b ≡ true → b ≡ (b || d)
or_true true d is = refl
or_true false d is = absurd (true≢false (sym is))

pub or_false : (b d : Bool) → b ≡ false → d ≡ (b || d)
or_false true d is = absurd (true≢false is)
or_false false d is = refl

-- rows of the same numbers, table by table
abbrev rows_of : List ℕ → List ℕ → List ℕ → Enabled
rows_of tree wave act = record { tree = tree; wave = wave; act = act }

pub same_rows : {t t' w w' a a' : List ℕ} → t ≡ t' → w ≡ w' → a ≡ a'
    → record { tree = t; wave = w; act = a } ≡ rows_of t' w' a'
same_rows {t = t} {t' = t'} {w = w} {w' = w'} {a = a} {a' = a'} tree wave act =
    ap (λ ns. rows_of ns w a) tree ∙ ap (λ ns. rows_of t' ns a) wave ∙ ap (λ ns. rows_of t' w' ns) act

filter_next : (p : ℕ → Bool) (xs : List ℕ) (i : ℕ) → i < length xs
    → filter p (take (suc i) xs) ≡ filter p (take i xs) ++ cond (p (slice_index xs i)) (slice_index xs i ∷ []) []
filter_next p [] i short = absurd (omega arith)
filter_next p (x ∷ xs) zero short =
    elim (p x) as (λ b. cond b (x ∷ []) [] ≡ cond b (x ∷ []) []) [ true ↦ refl | false ↦ refl ]
filter_next p (x ∷ xs) (suc i) short =
    let rest = filter_next p xs i (omega arith) in
    let here = cond (p (slice_index xs i)) (slice_index xs i ∷ []) [] in
    elim (p x)
    as (λ b. cond b (x ∷ filter p (take (suc i) xs)) (filter p (take (suc i) xs))
    ≡ cond b (x ∷ filter p (take i xs)) (filter p (take i xs)) ++ here)
    [ true ↦ ap (λ l. x ∷ l) rest | false ↦ rest ]

-- the item at the index is kept
pub kept_next : (p : ℕ → Bool) (xs before after : List ℕ) (i x : ℕ) → i < length xs → slice_index xs i ≡ x → p x ≡ true
    → before ≡ filter p (take i xs) → after ≡ before ++ x ∷ [] → after ≡ filter p (take (i + 1) xs)
kept_next p xs before after i x short at keeps so_far pushed =
    pushed ∙ ap (λ l. l ++ x ∷ []) so_far
    ∙ ap (λ b. filter p (take i xs) ++ cond b (x ∷ []) []) (sym keeps)
    ∙ ap (λ y. filter p (take i xs) ++ cond (p y) (y ∷ []) []) (sym at)
    ∙ sym (filter_next p xs i short) ∙ ap (λ k. filter p (take k xs)) (sym (add-one i))

-- or it isn't
pub left_next : (p : ℕ → Bool) (xs before : List ℕ) (i x : ℕ) → i < length xs → slice_index xs i ≡ x → p x ≡ false
    → before ≡ filter p (take i xs) → before ≡ filter p (take (i + 1) xs)
left_next p xs before i x short at leaves so_far =
    so_far ∙ sym (append-nil (filter p (take i xs)))
    ∙ ap (λ b. filter p (take i xs) ++ cond b (x ∷ []) []) (sym leaves)
    ∙ ap (λ y. filter p (take i xs) ++ cond (p y) (y ∷ []) []) (sym at)
    ∙ sym (filter_next p xs i short) ∙ ap (λ k. filter p (take k xs)) (sym (add-one i))
