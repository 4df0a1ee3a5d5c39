-- Ascending numbers with one more at their end, and the prefixes of lists.
use Rattle.std.proofs.Common.{◌≡◌, ℕ, ◌+◌, ◌-◌, zero, suc, List, [], ◌∷◌, ◌++◌, All, length, length-append, get_or, ap}
use Rattle.std.proofs.Common.{◌∙◌, subst, arith, ⊎_elim}
use Rattle.std.specs.List.Sorted.{IsStrictlyIncreasing}
use Rattle.std.proofs.Math.Seq.{get_or-append_seam}
use Rattle.std.proofs.lemmas.Bool.{cases_lt}
use Rattle.std.proofs.lemmas.List.{get_or_append_left}
use Rattle.app_interface.specs.Listing.{EndsBelow}

pub rises_push : (ns : List ℕ) (n : ℕ) → IsStrictlyIncreasing ns → EndsBelow ns n → IsStrictlyIncreasing (ns ++ n ∷ [])
rises_push ns n up above k lt =
    let long : length (ns ++ n ∷ []) ≡ length ns + 1 = length-append ns (n ∷ []) in
    let here : get_or (ns ++ n ∷ []) k 0 ≡ get_or ns k 0 =
    get_or_append_left ns (n ∷ []) 0 k (omega (arith, lt, long)) in
    ⊎_elim
    (λ inside.
    let next : get_or (ns ++ n ∷ []) (k + 1) 0 ≡ get_or ns (k + 1) 0 =
    get_or_append_left ns (n ∷ []) 0 (k + 1) inside in
    omega (arith, here, next, up k inside))
    (λ past.
    let at : k + 1 ≡ length ns = omega (arith, lt, long, past) in
    let before : k ≡ length ns - 1 = omega (arith, at) in
    let next : get_or (ns ++ n ∷ []) (k + 1) 0 ≡ n =
    ap (λ i. get_or (ns ++ n ∷ []) i 0) at ∙ get_or-append_seam ns n [] 0 in
    let last : get_or ns k 0 ≡ get_or ns (length ns - 1) 0 = ap (λ i. get_or ns i 0) before in
    omega (arith, here, next, last, above (omega (arith, at))))
    (cases_lt (k + 1) (length ns))

pub ends_below : (ns : List ℕ) (n : ℕ) → IsStrictlyIncreasing (ns ++ n ∷ []) → EndsBelow ns n
ends_below ns n up some =
    let long : length (ns ++ n ∷ []) ≡ length ns + 1 = length-append ns (n ∷ []) in
    let after : length ns - 1 + 1 ≡ length ns = omega (arith, some) in
    let last : get_or (ns ++ n ∷ []) (length ns - 1) 0 ≡ get_or ns (length ns - 1) 0 =
    get_or_append_left ns (n ∷ []) 0 (length ns - 1) (omega (arith, some)) in
    let next : get_or (ns ++ n ∷ []) (length ns - 1 + 1) 0 ≡ n =
    ap (λ k. get_or (ns ++ n ∷ []) k 0) after ∙ get_or-append_seam ns n [] 0 in
    omega (arith, last, next, up (length ns - 1) (omega (arith, after, long)))

-- the prefix of ascending numbers ascends
pub prefix_rises : (xs ys : List ℕ) → IsStrictlyIncreasing (xs ++ ys) → IsStrictlyIncreasing xs
prefix_rises xs ys up k lt =
    let long : length (xs ++ ys) ≡ length xs + length ys = length-append xs ys in
    omega (
      arith,
      up k (omega (arith, lt, long)),
      get_or_append_left xs ys 0 k (omega (arith, lt)),
      get_or_append_left
          xs ys 0 (k + 1) lt,
    )

-- ---- what holds of each item

pub prefix_all : {X : Type 0} (P : X → Type 0) (xs ys : List X) → All P (xs ++ ys) → All P xs
prefix_all P xs ys all k d lt =
    let long : length (xs ++ ys) ≡ length xs + length ys = length-append xs ys in
    subst P (get_or_append_left xs ys d k lt) (all k d (omega (arith, lt, long)))

pub item_at_seam : {X : Type 0} (P : X → Type 0) (xs : List X) (y : X) (more : List X) → All P (xs ++ y ∷ more) → P y
item_at_seam P xs y more all =
    subst P (get_or-append_seam xs y more y) (all (length xs) y (omega (arith, length-append xs (y ∷ more))))

pub all_one : {X : Type 0} (P : X → Type 0) (x : X) → P x → All P (x ∷ [])
all_one P x is zero d lt = is
all_one P x is (suc k) d lt = absurd (omega (arith, lt))
