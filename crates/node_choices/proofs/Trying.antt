-- Trying the elements of a list in turn, where what is left to try gives what all give.
use Rattle.std.proofs.Common.{◌≡◌, ℕ, ◌+◌, ◌<◌, ◌≤◌, Bool, true, cond, List, [], ◌∷◌, ◌++◌, Option, Some, None, filter}
use Rattle.std.proofs.Common.{find, length, drop, map, get_or, append_assoc, append-nil, sym, ap, ◌∙◌}
use Rattle.std.specs.List.{flat_map}
use Rattle.std.specs.Option.{option_or}
use Rattle.std.proofs.lemmas.List.{at_drop_more}
use Rattle.std.proofs.lemmas.List.Concat.{flat_map-cons}
use Rattle.std.proofs.lemmas.List.Elements.{filter-append}
use Rattle.std.proofs.lemmas.List.Folds.{find-append}
use Rattle.reset_machine.proofs.CaseArguments.{cases_end, cases_from, cases_next}

-- one that is taken of a list gives what passes
pub passed_found : {X Y : Type 0} (p : Y → Bool) (f : X → Y) (q : X → Bool) (xs : List X) (i : ℕ) (x : X)
    (all : Option Y) → i < length xs → x ≡ get_or xs i x → q x ≡ true → p (f x) ≡ true
    → find p (map f (filter q (drop i xs))) ≡ all → Some (f x) ≡ all
passed_found p f q xs i x all short at taken passes so_far =
    let rest = drop (i + 1) xs in
    let left = filter q rest in
    sym (ap (λ y. find p (map f (filter q (y ∷ rest)))) (sym at)
    ∙ ap (λ b. find p (map f (cond b (x ∷ left) left))) taken
    ∙ ap (λ b. cond b (Some (f x)) (find p (map f left))) passes)
    ∙ sym (at_drop_more (λ ns. find p (map f (filter q ns))) xs i x short) ∙ so_far

-- ---- lists one after the other

pub first_some : {Y : Type 0} (o rest all : Option Y) (y : Y) → o ≡ Some y → option_or o rest ≡ all → Some y ≡ all
first_some None rest all y is so_far = absurd (cc)
first_some (Some x) rest all y is so_far = sym is ∙ so_far

pub first_none : {Y : Type 0} (o rest all : Option Y) → o ≡ None → option_or o rest ≡ all → rest ≡ all
first_none None rest all is so_far = so_far
first_none (Some x) rest all is so_far = absurd (cc)

-- what the view allows of one list, or else of the next
pub two_lists : {Y : Type 0} (p : Y → Bool) (xs ys : List Y) (all : Option Y) → find p (xs ++ ys) ≡ all
    → option_or (find p xs) (find p ys) ≡ all
two_lists p xs ys all so_far = sym (find-append p xs ys) ∙ so_far

-- ---- the cases from n on

flat_cases : {Y : Type 0} (f : ℕ → List Y) (n : ℕ) → n ≤ 16
    → flat_map f (cases_from n) ≡ f n ++ flat_map f (cases_from (n + 1))
flat_cases f n low = ap (flat_map f) (cases_next n low) ∙ flat_map-cons f n (cases_from (n + 1))

pub case_next : {Y : Type 0} (p : Y → Bool) (f : ℕ → List Y) (n : ℕ) (all : Option Y) → n ≤ 16
    → find p (flat_map f (cases_from n)) ≡ all
    → option_or (find p (f n)) (find p (flat_map f (cases_from (n + 1)))) ≡ all
case_next p f n all low so_far =
    two_lists p (f n) (flat_map f (cases_from (n + 1))) all (sym (ap (find p) (flat_cases f n low)) ∙ so_far)

pub cases_done : {Y : Type 0} (p : Y → Bool) (f : ℕ → List Y) (n : ℕ) (all : Option Y) → 16 < n
    → find p (flat_map f (cases_from n)) ≡ all → None ≡ all
cases_done p f n all high so_far = sym (ap (λ ns. find p (flat_map f ns)) (cases_end n high)) ∙ so_far

-- what passes of a case more was added
pub case_added : {Y : Type 0} (p : Y → Bool) (f : ℕ → List Y) (n : ℕ) (before more all : List Y) → n ≤ 16
    → more ≡ before ++ filter p (f n) → before ++ filter p (flat_map f (cases_from n)) ≡ all
    → more ++ filter p (flat_map f (cases_from (n + 1))) ≡ all
case_added p f n before more all low is so_far =
    let here = filter p (f n) in
    let later = flat_map f (cases_from (n + 1)) in
    let split : filter p (flat_map f (cases_from n)) ≡ here ++ filter p later =
    ap (filter p) (flat_cases f n low) ∙ filter-append p (f n) later in
    ap (λ l. l ++ filter p later) is ∙ append_assoc before here (filter p later)
    ∙ ap (λ l. before ++ l) (sym split) ∙ so_far

pub cases_added : {Y : Type 0} (p : Y → Bool) (f : ℕ → List Y) (n : ℕ) (before all : List Y) → 16 < n
    → before ++ filter p (flat_map f (cases_from n)) ≡ all → before ≡ all
cases_added p f n before all high so_far =
    sym (append-nil before) ∙ ap (λ ns. before ++ filter p (flat_map f ns)) (sym (cases_end n high)) ∙ so_far

-- what passes of five lists was added, of one after the other
pub all_added : {Y : Type 0} (p : Y → Bool) (a b c d e none r1 r2 r3 r4 all : List Y) → none ≡ []
    → r1 ≡ none ++ filter p a → r2 ≡ r1 ++ filter p b → r3 ≡ r2 ++ filter p c → r4 ≡ r3 ++ filter p d
    → all ≡ r4 ++ filter p e → all ≡ filter p (a ++ b ++ c ++ d ++ e)
all_added p a b c d e none r1 r2 r3 r4 all empty first second third fourth fifth =
    let one : r1 ≡ filter p a = first ∙ ap (λ l. l ++ filter p a) empty in
    let two : r2 ≡ filter p (a ++ b) = second ∙ ap (λ l. l ++ filter p b) one ∙ sym (filter-append p a b) in
    let three : r3 ≡ filter p (a ++ b ++ c) =
    third ∙ ap (λ l. l ++ filter p c) two ∙ sym (filter-append p (a ++ b) c) in
    let four : r4 ≡ filter p (a ++ b ++ c ++ d) =
    fourth ∙ ap (λ l. l ++ filter p d) three ∙ sym (filter-append p (a ++ b ++ c) d) in
    fifth ∙ ap (λ l. l ++ filter p e) four ∙ sym (filter-append p (a ++ b ++ c ++ d) e)
