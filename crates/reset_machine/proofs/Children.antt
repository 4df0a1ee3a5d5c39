-- Those of the neighbours, given by their indexes, that pass a test; the children among them.
use Rattle.std.proofs.Common.{◌≡◌, ℕ, suc, ◌+◌, ◌<◌, ◌==◌, if◌then◌else◌, cond, Bool, true, false, List, ◌∷◌, map}
use Rattle.std.proofs.Common.{filter, length, drop, slice_index, refl, sym, ap, ap₂, ◌∙◌, [], ◌++◌, subst, append_assoc}
use Rattle.std.proofs.Common.{add-one, drop-cons}
use Rattle.std.specs.List.Sorted.{IsStrictlyIncreasing}
use Rattle.std.proofs.lemmas.List.Kept.{IsStrictlyIncreasing-filter}
use Rattle.topology.specs.Graph.{Graph}
use Rattle.reset_model.specs.LocalSteps.{children_of}
use Rattle.tree_layer.specs.declared.regs.TreeRegs.{TreeRegs}
use Rattle.wave_layer.specs.declared.regs.WaveRegs.{WaveRegs}

-- what f makes of those of the ids at these indexes that pass the test
abbrev pub among : {X : Type 0} → List ℕ → (ℕ → Bool) → (ℕ → X) → List ℕ → List X
among ids p f near = map f (filter p (map (λ n. slice_index ids n) near))

-- the next id passes or it doesn't
pub among-drop : {X : Type 0} (ids : List ℕ) (p : ℕ → Bool) (f : ℕ → X) (near : List ℕ) (i : ℕ) → i < length near →
    among ids p f (drop i near)
    ≡ (let c = slice_index ids (slice_index near i) in if p c then f c
    ∷ among ids p f (drop (i + 1) near) else among ids p f (drop (i + 1) near))
among-drop {X} ids p f near i short =
    rw (drop-cons near i 0, add-one) (pushed (slice_index near i))
  where
    rest : List ℕ
    rest = drop (suc i) near

    pushed : (n : ℕ)
        → among ids p f (n ∷ rest)
        ≡ (let c = slice_index ids n in if p c then f c ∷ among ids p f rest else among ids p f rest)
    pushed n =
        elim (p (slice_index ids n))
        as (λ b. map f
        (cond b (slice_index ids n ∷ filter p (map (λ m. slice_index ids m) rest))
        (filter p (map (λ m. slice_index ids m) rest)))
        ≡ cond b (f (slice_index ids n) ∷ among ids p f rest) (among ids p f rest)) [ true ↦ refl | false ↦ refl ]

-- the turn of one that passes
pub kept_more : {X : Type 0} (ids : List ℕ) (p : ℕ → Bool) (f : ℕ → X) (near : List ℕ) (i : ℕ) (done more all : List X)
    (x : X) → i < length near →
    p (slice_index ids (slice_index near i)) ≡ true → f (slice_index ids (slice_index near i)) ≡ x
    → more ≡ done ++ x ∷ []
    → done ++ among ids p f (drop i near) ≡ all → more ++ among ids p f (drop (i + 1) near) ≡ all
kept_more ids p f near i done more all x short passes same pushed so_far =
    let e = among-drop ids p f near i short in
    rw (pushed, append_assoc)
    (rw (← same)
    (ap (λ r. done ++ r)
    (sym (e ∙ ap
    (λ b. cond b (f (slice_index ids (slice_index near i)) ∷ among ids p f (drop (i + 1) near))
    (among ids p f (drop (i + 1) near))) passes)) ∙ so_far))

-- the turn of one that doesn't
pub left_more : {X : Type 0} (ids : List ℕ) (p : ℕ → Bool) (f : ℕ → X) (near : List ℕ) (i : ℕ) (done all : List X)
    → i < length near →
    p (slice_index ids (slice_index near i)) ≡ false → done ++ among ids p f (drop i near) ≡ all
    → done ++ among ids p f (drop (i + 1) near) ≡ all
left_more ids p f near i done all short fails so_far =
    let e = among-drop ids p f near i short in
    ap (λ r. done ++ r)
    (sym (e ∙ ap
    (λ b. cond b (f (slice_index ids (slice_index near i)) ∷ among ids p f (drop (i + 1) near))
    (among ids p f (drop (i + 1) near))) fails)) ∙ so_far

-- the children's ids and registers
abbrev pub children_among : List ℕ → (ℕ → TreeRegs) → (ℕ → WaveRegs) → ℕ → List ℕ → List (ℕ × WaveRegs)
children_among ids t w id near = among ids (λ c. (t c).father == id) (λ c. (c, w c)) near

ids_of-pairs : (w : ℕ → WaveRegs) (is : List ℕ) → map (λ (c : ℕ × WaveRegs). c.0) (map (λ i. (i, w i)) is) ≡ is
ids_of-pairs w [] = refl
ids_of-pairs w (i ∷ is) = ap (λ r. i ∷ r) (ids_of-pairs w is)

-- the ids of the children ascend
pub children_ascend : (g : Graph) (t : ℕ → TreeRegs) (w : ℕ → WaveRegs) (i : ℕ) → IsStrictlyIncreasing g.ids
    → IsStrictlyIncreasing (map (λ (c : ℕ × WaveRegs). c.0) (map (λ c. (c, w c)) (children_of g t i)))
children_ascend g t w i up =
    let P : List ℕ → Type 0 = λ is. IsStrictlyIncreasing is in
    subst P (sym (ids_of-pairs w (children_of g t i)))
    (IsStrictlyIncreasing-filter _ _ (IsStrictlyIncreasing-filter _ _ up))

-- a node with what stands at it
pub same_pair : {X : Type 0} {j k : ℕ} {x y : X} → j ≡ k → x ≡ y → ◌≡◌ {A = ℕ × X} (j, x) (k, y)
same_pair {X} j x = let pair : ℕ → X → ℕ × X = λ a b. (a, b) in ap₂ pair j x
