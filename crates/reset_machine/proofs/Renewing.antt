-- What is reached of renewing the values of the ids that come up, one after another.
use Rattle.std.proofs.Common.{◌≡◌, ℕ, zero, suc, ◌+◌, ◌<◌, Bool, true, false, cond, List, [], ◌∷◌, ◌++◌, length, get_or, take, drop}
use Rattle.std.proofs.Common.{set, refl, sym, ap, ap₂, ◌∙◌, ⊎_elim, true≢false, arith}
use Rattle.std.proofs.Math.Seq.{take-append_seam}
use Rattle.std.proofs.lemmas.Bool.{cases_Bool, cases_eq}
use Rattle.std.proofs.lemmas.List.{get_or-set_other, get_or-set_same, length-set}
use Rattle.reset_model.specs.Topologies.{renewed}

-- the values of the first k ids are as they are to be, and renewing all gives what it gave before
pub record AreRenewed {X : Type 0} (comes : ℕ → Bool) (new : ℕ → X) (ids : List ℕ) (k : ℕ) (old now : List X) : Type 0
  where
    pub count : length now ≡ length old
    pub rest : renewed comes new ids now ≡ renewed comes new ids old
    pub done : (j : ℕ) (d : X) → j < k → j < length ids → comes (get_or ids j 0) ≡ true
        → get_or now j d ≡ new (get_or ids j 0)

module _ {X : Type 0} (comes : ℕ → Bool) (new : ℕ → X) where
  renewed-set : (ids : List ℕ) (xs : List X) (k : ℕ) → k < length ids → comes (get_or ids k 0) ≡ true
      → renewed comes new ids (set xs k (new (get_or ids k 0))) ≡ renewed comes new ids xs
  renewed-set [] xs k low up = absurd (omega arith)
  renewed-set (i ∷ is) [] k low up = refl
  renewed-set (i ∷ is) (x ∷ xs) zero low up =
      let one : X → List X → List X = λ y ys. y ∷ ys in
      ap (λ b. one (cond b (new i) (new i)) (renewed comes new is xs)) up
      ∙ sym (ap (λ b. one (cond b (new i) x) (renewed comes new is xs)) up)
  renewed-set (i ∷ is) (x ∷ xs) (suc k) low up =
      let one : X → List X → List X = λ y ys. y ∷ ys in
      ap (one (cond (comes i) (new i) x)) (renewed-set is xs k (omega arith) up)

  renewed-done : (ids : List ℕ) (xs : List X) → length xs ≡ length ids
      → ((j : ℕ) (d : X) → j < length ids → comes (get_or ids j 0) ≡ true → get_or xs j d ≡ new (get_or ids j 0))
      → xs ≡ renewed comes new ids xs
  renewed-done [] [] same done = refl
  renewed-done [] (x ∷ xs) same done = absurd (omega (arith, same))
  renewed-done (i ∷ is) [] same done = absurd (omega (arith, same))
  renewed-done (i ∷ is) (x ∷ xs) same done =
      let one : X → List X → List X = λ y ys. y ∷ ys in
      let rest : xs ≡ renewed comes new is xs =
      renewed-done is xs (omega (arith, same)) (λ j d low up. done (suc j) d (omega arith) up) in
      ⊎_elim
      (λ up. ap₂ one (done 0 x (omega arith) up ∙ sym (ap (λ b. cond b (new i) x) up)) rest)
      (λ down. ap₂ one (sym (ap (λ b. cond b (new i) x) down)) rest)
      (cases_Bool (comes i))

  module _ (ids : List ℕ) (old : List X) where
    pub none_renewed : AreRenewed comes new ids 0 old old
    none_renewed = record { count = refl; rest = refl; done = λ j d low. absurd (omega arith) }

    module _ (k : ℕ) (now : List X) (so_far : AreRenewed comes new ids k old now) where
      pub one_kept : comes (get_or ids k 0) ≡ false → AreRenewed comes new ids (k + 1) old now
      one_kept down = record {
        count = so_far.count;
        rest = so_far.rest;
        done = λ j d low short up.
            ⊎_elim
            (λ same. absurd (true≢false (sym up ∙ ap (λ n. comes (get_or ids n 0)) same ∙ down)))
            (λ other. so_far.done j d (omega (arith, low, other)) short up)
            (cases_eq j k);
      }

      pub one_renewed : k < length ids → length old ≡ length ids → comes (get_or ids k 0) ≡ true
          → (x : X) (after : List X) → x ≡ new (get_or ids k 0) → after ≡ set now k x
          → AreRenewed comes new ids (k + 1) old after
      one_renewed low all up x after is made =
          let written : after ≡ set now k (new (get_or ids k 0)) = made ∙ ap (set now k) is in
          record {
            count = ap length made ∙ length-set now k x ∙ so_far.count;
            rest = ap (renewed comes new ids) written ∙ renewed-set ids now k low up ∙ so_far.rest;
            done = λ j d below short comes_j.
                ⊎_elim
                (λ same. ap (λ ys. get_or ys j d) written ∙ ap (λ n. get_or (set now k (new (get_or ids k 0))) n d) same
                ∙ get_or-set_same now k (new (get_or ids k 0)) d (omega (arith, low, all, so_far.count))
                ∙ ap (λ n. new (get_or ids n 0)) (sym same))
                (λ other. ap (λ ys. get_or ys j d) written
                ∙ get_or-set_other now k j (new (get_or ids k 0)) d other
                ∙ so_far.done j d (omega (arith, below, other)) short comes_j)
                (cases_eq j k);
          }

    pub all_renewed : (k : ℕ) (now : List X) → AreRenewed comes new ids k old now → length ids ≡ k
        → length old ≡ length ids → now ≡ renewed comes new ids old
    all_renewed k now are ended all =
        renewed-done ids now (are.count ∙ all) (λ j d low. are.done j d (omega (arith, low, ended)) low) ∙ are.rest

-- what stands at a place of the renewed values
pub renewed-at : {X : Type 0} (comes : ℕ → Bool) (new : ℕ → X) (ids : List ℕ) (xs : List X) (k : ℕ) (d : X)
    → length xs ≡ length ids → k < length ids
    → get_or (renewed comes new ids xs) k d ≡ cond (comes (get_or ids k 0)) (new (get_or ids k 0)) (get_or xs k d)
renewed-at comes new [] xs k d same low = absurd (omega arith)
renewed-at comes new (i ∷ is) [] k d same low = absurd (omega (arith, same))
renewed-at comes new (i ∷ is) (x ∷ xs) zero d same low = refl
renewed-at comes new (i ∷ is) (x ∷ xs) (suc k) d same low =
    renewed-at comes new is xs k d (omega (arith, same)) (omega arith)

pub length-renewed : {X : Type 0} (comes : ℕ → Bool) (new : ℕ → X) (ids : List ℕ) (xs : List X)
    → length xs ≡ length ids → length (renewed comes new ids xs) ≡ length ids
length-renewed comes new [] xs same = refl
length-renewed comes new (i ∷ is) [] same = absurd (omega (arith, same))
length-renewed comes new (i ∷ is) (x ∷ xs) same = ap suc (length-renewed comes new is xs (omega (arith, same)))

-- a list that is written over the first places of another one, of which as many are taken
pub take_written : {X : Type 0} (n : ℕ) (ys xs : List X) → length ys ≡ n → take n (ys ++ drop (length ys) xs) ≡ ys
take_written n ys xs same = rw (← same) (take-append_seam ys (drop (length ys) xs))
