-- The first item of a list with a property, and the first that repeats an earlier one.
use Rattle.std.proofs.Common.{◌≡◌, ℕ, suc, ◌+◌, ◌<◌, ◌≤◌, ◌≢◌, List, [], ◌∷◌, ◌++◌, length, get_or, take, drop, All}
use Rattle.std.proofs.Common.{AllPairs, Contains, sym, refl, ap, subst, ◌∙◌, arith, take-append-drop, length-append}
use Rattle.std.proofs.lemmas.List.{take_all, drop_more, append_assoc, get_or_append_left, get_or_at}
use Rattle.std.proofs.lemmas.List.{get_or_default}
use Rattle.std.proofs.lemmas.List.Elements.{All-contains, All-append, All-cons, All-nil, Contains-append_right}
use Rattle.std.proofs.lemmas.List.Concat.{flat_map-append}
use Rattle.std.proofs.lemmas.List.Quantifiers.{all_pairs_push}
use Rattle.topology.specs.Faults.{IsFirst, IsRepeated, IsFirstRepeat, ends_of}

-- the list in front of an index, the item there and the rest
pub split_at : {X : Type 0} (xs : List X) (k : ℕ) (d : X) → k < length xs
    → xs ≡ take k xs ++ get_or xs k d ∷ drop (k + 1) xs
split_at xs k d within = sym (take-append-drop k xs) ∙ ap (λ ys. take k xs ++ ys) (drop_more xs k d within)

module _ {X : Type 0} (P : X → Type 0) where
  pub first_at : (xs prefix rest : List X) (x : X) → xs ≡ prefix ++ x ∷ rest → All (λ y. P y → ⊥) prefix → P x
      → IsFirst P xs x
  first_at xs prefix rest x whole none here =
      record {
        prefix = prefix;
        rest = rest;
        whole = whole;
        before = λ y y_in. All-contains (λ z. P z → ⊥) prefix y none y_in;
        here = here;
      }

  -- where no item has the property there is no first
  pub no_first : (xs : List X) (x : X) → All (λ y. P y → ⊥) xs → IsFirst P xs x → ⊥
  no_first xs x none first =
      All-contains (λ z. P z → ⊥) xs x none
      (subst (λ ys. Contains ys x) (sym first.whole)
      (Contains-append_right first.prefix (x ∷ first.rest) x (0, omega arith, refl))) first.here

pub first_weaker : {X : Type 0} (P Q : X → Type 0) → ((x : X) → P x → Q x) → ((x : X) → Q x → P x)
    → (xs : List X) (x : X) → IsFirst P xs x → IsFirst Q xs x
first_weaker P Q to from xs x f =
    record {
      prefix = f.prefix;
      rest = f.rest;
      whole = f.whole;
      before = λ y y_in q. f.before y y_in (from y q);
      here = to x f.here;
    }

-- a loop over the list has come to its end
pub all_passed : {X : Type 0} (P : X → Type 0) (xs : List X) (i : ℕ) → length xs ≤ i → All P (take i xs) → All P xs
all_passed P xs i past all = subst (All P) (take_all i xs past) all

-- ---- repeats

-- where all items differ none repeats an earlier one
pub no_repeat : {X : Type 0} (xs : List X) → AllPairs (λ x y. x ≢ y) xs → (x : X) → IsRepeated xs x → ⊥
no_repeat xs apart x r =
    let k = r.earlier.0 in
    let long : length xs ≡ length r.prefix + suc (length r.rest) =
    ap length r.whole ∙ length-append r.prefix (x ∷ r.rest) in
    let first : get_or xs k x ≡ x =
    ap (λ ys. get_or ys k x) r.whole ∙ get_or_append_left r.prefix (x ∷ r.rest) x k r.earlier.1 ∙ r.earlier.2 in
    let second : get_or xs (length r.prefix) x ≡ x =
    ap (λ ys. get_or ys (length r.prefix) x) r.whole ∙ get_or_at r.prefix x r.rest x (length r.prefix) refl in
    apart k (length r.prefix) x r.earlier.1 (omega arith) (first ∙ sym second)

pub first_repeat_at : {X : Type 0} (xs prefix rest : List X) (x : X) → xs ≡ prefix ++ x ∷ rest
    → AllPairs (λ y z. y ≢ z) prefix → Contains prefix x → IsFirstRepeat xs x
first_repeat_at xs prefix rest x whole apart earlier =
    record
    { prefix = prefix; rest = rest; whole = whole; earlier = earlier; distinct = λ y r. no_repeat prefix apart y r }

pub no_first_repeat : {X : Type 0} (xs : List X) → AllPairs (λ x y. x ≢ y) xs → (x : X) → IsFirstRepeat xs x → ⊥
no_first_repeat xs apart x r =
    no_repeat xs apart x (record { prefix = r.prefix; rest = r.rest; whole = r.whole; earlier = r.earlier })

-- one item more, which is not among those before
pub apart_push : {X : Type 0} (xs : List X) (x : X) → AllPairs (λ y z. y ≢ z) xs → (Contains xs x → ⊥)
    → AllPairs (λ y z. y ≢ z) (xs ++ x ∷ [])
apart_push xs x apart absent =
    all_pairs_push (λ y z. y ≢ z) xs x apart (λ k d within e. absent (k, within, get_or_default xs k x d within ∙ e))

-- ---- the ends of links

module _ (links : List (ℕ × ℕ)) (k : ℕ) (within : k < length links) where
  pub ends_whole : ends_of links
      ≡ ends_of (take k links) ++ (get_or links k (0, 0)).0 ∷ (get_or links k (0, 0)).1 ∷ ends_of (drop (k + 1) links)
  ends_whole =
      let f : ℕ × ℕ → List ℕ = λ l. l.0 ∷ l.1 ∷ [] in
      ap ends_of (split_at links k (0, 0) within)
      ∙ flat_map-append f (take k links) (get_or links k (0, 0) ∷ drop (k + 1) links)

  pub first_end : (P : ℕ → Type 0) → All (λ y. P y → ⊥) (ends_of (take k links)) → P (get_or links k (0, 0)).0
      → IsFirst P (ends_of links) (get_or links k (0, 0)).0
  first_end P none here =
      first_at P (ends_of links) (ends_of (take k links)) _ (get_or links k (0, 0)).0 ends_whole none here

  pub second_end : (P : ℕ → Type 0) → All (λ y. P y → ⊥) (ends_of (take k links)) → (P (get_or links k (0, 0)).0 → ⊥)
      → P (get_or links k (0, 0)).1 → IsFirst P (ends_of links) (get_or links k (0, 0)).1
  second_end P none first here =
      let a = (get_or links k (0, 0)).0 in
      let b = (get_or links k (0, 0)).1 in
      first_at P (ends_of links) (ends_of (take k links) ++ a ∷ []) (ends_of (drop (k + 1) links)) b
      (ends_whole ∙ sym (append_assoc (ends_of (take k links)) (a ∷ []) (b ∷ ends_of (drop (k + 1) links))))
      (All-append (λ y. P y → ⊥) (ends_of (take k links)) (a ∷ []) none
      (All-cons (λ y. P y → ⊥) a [] first (All-nil (λ y. P y → ⊥)))) here

  pub ends_known : (P : ℕ → Type 0) → All P (ends_of links) → P (get_or links k (0, 0)).0 × P (get_or links k (0, 0)).1
  ends_known P all =
      let a = (get_or links k (0, 0)).0 in
      let b = (get_or links k (0, 0)).1 in
      let later : Contains (a ∷ b ∷ ends_of (drop (k + 1) links)) a = (0, omega arith, refl) in
      let last : Contains (a ∷ b ∷ ends_of (drop (k + 1) links)) b = (1, omega arith, refl) in (
        All-contains P (ends_of links) a all
            (subst (λ xs. Contains xs a) (sym ends_whole) (Contains-append_right (ends_of (take k links)) _ a later)),
        All-contains P (ends_of links) b all
            (subst (λ xs. Contains xs b) (sym ends_whole) (Contains-append_right (ends_of (take k links)) _ b last)),
      )
