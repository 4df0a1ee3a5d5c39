-- A vector whose own elements were put back into it.
use Rattle.std.proofs.Common.{◌≡◌, ◌∙◌, ◌≤◌, ◌++◌, List, Vec, length, take, drop, ap, sym, subst}
use native.Mathlib.Nat.{ℕ_set}
use native.Mathlib.Bridge.{le_prop}
use Rattle.std.proofs.Math.Seq.{take-append_seam}
use Rattle.std.specs.Vec.{with_items}

module _ {X Z : Type 0} (v : Vec X Z) where
  abbrev HasRoom : List X → Type 0
  HasRoom xs = (v.len ≡ length xs) × (v.len ≤ v.cap)

  abbrev with_these : (xs : List X) → HasRoom xs → Vec X Z
  with_these xs ok =
      record { ptr = v.ptr; len = v.len; cap = v.cap; alloc = v.alloc; items = xs; ok = ok; small = v.small }

  one_room : (xs : List X) (p q : HasRoom xs) → p ≡ q
  one_room xs p q = λ k. (ℕ_set _ _ p.0 q.0 k, le_prop p.1 q.1 k)

  with_own : (xs : List X) → xs ≡ v.items → (ok : HasRoom xs) → with_these xs ok ≡ v
  with_own xs is = subst (λ ys. (ok : HasRoom ys) → with_these ys ok ≡ v) (sym is)
      (λ ok. ap (with_these v.items) (one_room v.items ok v.ok))

  refilled : take v.len (v.items ++ drop (length v.items) v.items) ≡ v.items
  refilled =
      ap (λ n. take n (v.items ++ drop (length v.items) v.items)) v.ok.0
      ∙ take-append_seam v.items (drop (length v.items) v.items)

  pub put_back : (items : List X) → items ≡ v.items → with_items v items ≡ v
  put_back items is =
      with_own (with_items v items).items (ap (λ xs. (with_items v xs).items) is ∙ refilled) (with_items v items).ok
