-- Bytes that are cut at their first line feed.
use Rattle.std.proofs.Common.{◌≡◌, ℕ, zero, suc, ◌+◌, ◌<◌, ◌==◌, true, List, [], ◌∷◌, ◌++◌, length, get_or, take, drop}
use Rattle.std.proofs.Common.{sym, ap, ◌∙◌, arith, eq-eqb, eqb-true}
use Rattle.std.proofs.lemmas.List.{drop_more, take-append-drop}
use Rattle.memchr.specs.Find.{NoneBefore, Nowhere, Passes, is_byte}
use Rattle.action_tables.specs.Cuts.{HasNo}

has_no : (byte : ℕ) (xs : List ℕ) → ((k : ℕ) → k < length xs → (get_or xs k 0 == byte) ≡ true → ⊥) → HasNo byte xs
has_no byte [] h = tt
has_no byte (x ∷ xs) h = (
  λ e. h 0 (omega arith) (eq-eqb x byte e),
  has_no byte xs (λ k lt. h (suc k) (omega arith)),
)

has_no_before : (byte : ℕ) (xs : List ℕ) (i : ℕ) → ((k : ℕ) → k < i → (get_or xs k 0 == byte) ≡ true → ⊥)
    → HasNo byte (take i xs)
has_no_before byte xs zero h = tt
has_no_before byte [] (suc i) h = tt
has_no_before byte (x ∷ xs) (suc i) h = (
  λ e. h 0 (omega arith) (eq-eqb x byte e),
  has_no_before byte xs i (λ k lt. h (suc k) (omega arith)),
)

pub uncut : (byte : ℕ) (xs : List ℕ) → Nowhere (Passes (is_byte byte) xs) 0 (length xs) → HasNo byte xs
uncut byte xs nowhere = has_no byte xs (λ k inside. nowhere k (omega arith) inside)

pub cut_prefix : (byte : ℕ) (xs : List ℕ) (i : ℕ) → NoneBefore (Passes (is_byte byte) xs) 0 (length xs) i
    → HasNo byte (take i xs)
cut_prefix byte xs i first = has_no_before byte xs i (λ k less. first.before k (omega arith) less)

pub cut_whole : (byte : ℕ) (xs : List ℕ) (i : ℕ) → i < length xs → (get_or xs i 0 == byte) ≡ true
    → xs ≡ take i xs ++ byte ∷ drop (i + 1) xs
cut_whole byte xs i inside here =
    sym (take-append-drop i xs)
    ∙ ap (λ l. take i xs ++ l) (drop_more xs i 0 inside)
    ∙ ap (λ b. take i xs ++ b ∷ drop (i + 1) xs) (eqb-true (get_or xs i 0) byte here)
