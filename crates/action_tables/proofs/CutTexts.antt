-- The place of a byte, and a text that is cut there.
use Rattle.std.proofs.Common.{◌≡◌, ℕ, zero, suc, ◌+◌, ◌<◌, ◌≤◌, ◌==◌, Bool, true, false, cond, ltb, true≢false, List}
use Rattle.std.proofs.Common.{[], ◌∷◌, ◌++◌, length, get_or, take, drop, position, None, Some, refl, sym, ap, ◌∙◌}
use Rattle.std.proofs.Common.{arith, eq-eqb, eqb-true}
use Rattle.std.specs.List.{position_or_len}
use Rattle.std.proofs.lemmas.Bool.{ltb-false}
use Rattle.std.proofs.lemmas.List.{drop_more, take-append-drop}
use Rattle.std.proofs.lemmas.List.Quantifiers.{position-Some}
use Rattle.std.proofs.lemmas.List.Sums.{fails_before_first}
use Rattle.std.proofs.lemmas.Option.{none-some}
use Rattle.action_tables.specs.Cuts.{HasNo}

-- a text has no byte that it has at no place
has_no : (byte : ℕ) (xs : List ℕ) → ((k : ℕ) → k < length xs → (get_or xs k 0 == byte) ≡ false) → HasNo byte xs
has_no byte [] h = tt
has_no byte (x ∷ xs) h = (
  λ e. absurd (true≢false (sym (eq-eqb x byte e) ∙ h 0 (omega arith))),
  has_no byte xs
      (λ k lt. h (suc k) (omega arith)),
)

none_where : (b : Bool) (n : ℕ) → None ≡ cond b (Some n) None → b ≡ false
none_where true n e = absurd (none-some n e)
none_where false n e = refl

pub unplaced : (byte : ℕ) (xs : List ℕ) → None ≡ position (λ b. b == byte) xs → HasNo byte xs
unplaced byte xs none =
    let place : ℕ = position_or_len (λ b. b == byte) xs in
    let past : length xs ≤ place = ltb-false place (length xs) (none_where (ltb place (length xs)) place none) in
    has_no byte xs (λ k lt. fails_before_first (λ b. b == byte) xs k 0 (omega (arith, past)))

has_no_before : (byte : ℕ) (xs : List ℕ) (i : ℕ) → ((k : ℕ) → k < i → (get_or xs k 0 == byte) ≡ false)
    → HasNo byte (take i xs)
has_no_before byte xs zero h = tt
has_no_before byte [] (suc i) h = tt
has_no_before byte (x ∷ xs) (suc i) h = (
  λ e. absurd (true≢false (sym (eq-eqb x byte e) ∙ h 0 (omega arith))),
  has_no_before byte xs i
      (λ k lt. h (suc k) (omega arith)),
)

pub placed_prefix : (byte : ℕ) (xs : List ℕ) (i : ℕ) → Some i ≡ position (λ b. b == byte) xs → HasNo byte (take i xs)
placed_prefix byte xs i at = has_no_before byte xs i (position-Some (λ b. b == byte) xs i 0 (sym at)).2

pub placed_whole : (byte : ℕ) (xs : List ℕ) (i : ℕ) → Some i ≡ position (λ b. b == byte) xs
    → xs ≡ take i xs ++ byte ∷ drop (i + 1) xs
placed_whole byte xs i at =
    let found = position-Some (λ b. b == byte) xs i 0 (sym at) in
    sym (take-append-drop i xs)
    ∙ ap (λ l. take i xs ++ l) (drop_more xs i 0 found.0)
    ∙ ap (λ b. take i xs ++ b ∷ drop (i + 1) xs) (eqb-true (get_or xs i 0) byte found.1)
