-- How the node judges an action of the application: the neighbours that it reads, and the ends.
use Rattle.std.proofs.Common.{◌≡◌, ◌≢◌, ℕ, suc, ◌+◌, ◌<◌, not, Bool, true, false, cond, List, ◌∷◌, map, filter}
use Rattle.std.proofs.Common.{length, drop, slice_index, slice_index_or, drop-cons, arith, add-one, Option, Some, None}
use Rattle.std.proofs.Common.{Result, Ok, Err, MatchResult, is_ok, refl, sym, ap, ◌∙◌, true≢false}
use Rattle.std.specs.List.{find}
use Rattle.std.specs.List.Sorted.{IsStrictlyIncreasing}
use Rattle.std.specs.Option.{is_some}
use Rattle.std.proofs.lemmas.List.{get_or_default}
use Rattle.app_interface.specs.Application.{App}
use Rattle.app_interface.specs.declared.reads.Reads.{Reads}
use Rattle.topology.specs.Graph.{Graph, neighbours_of, is_node}
use Rattle.wave_layer.specs.declared.regs.WaveRegs.{WaveRegs}
use Rattle.reset_model.specs.declared.step.StepRefusal.{StepRefusal}
use Rattle.reset_model.specs.declared.step.StepRefusal.TheVariants.{StrangeNode, StrangeNeighbour, NotEnabled, NoMemory}
use Rattle.reset_model.specs.Actions.{misfit, reads_near, first_apart, judged, case_outcome_of, acted_of}
use Rattle.reset_model.specs.Configuration.{value_at}
use Rattle.reset_model.specs.LocalSteps.{is_neighbour}
use Rattle.reset_model.proofs.Positions.{value_at-place}

-- the first of those of the ids at these indexes that pass the test p that passes q as well
abbrev pub first_among : List ℕ → (ℕ → Bool) → (ℕ → Bool) → List ℕ → Option ℕ
first_among ids p q near = find q (filter p (map (λ n. slice_index ids n) near))

-- the next id is the first or it isn't
first-drop : (ids : List ℕ) (p q : ℕ → Bool) (near : List ℕ) (i : ℕ) → i < length near →
    first_among ids p q (drop i near)
    ≡ (let c = slice_index ids (slice_index near i) in cond (p c)
    (cond (q c) (Some c) (first_among ids p q (drop (i + 1) near))) (first_among ids p q (drop (i + 1) near)))
first-drop ids p q near i short =
    rw (drop-cons near i 0, add-one) (next (slice_index near i))
  where
    rest : List ℕ
    rest = drop (suc i) near

    next : (n : ℕ)
        → first_among ids p q (n ∷ rest)
        ≡ (let c = slice_index ids n in cond (p c) (cond (q c) (Some c) (first_among ids p q rest))
        (first_among ids p q rest))
    next n =
        elim (p (slice_index ids n))
        as (λ b. find q
        (cond b (slice_index ids n ∷ filter p (map (λ m. slice_index ids m) rest))
        (filter p (map (λ m. slice_index ids m) rest)))
        ≡ cond b (cond (q (slice_index ids n)) (Some (slice_index ids n)) (first_among ids p q rest))
        (first_among ids p q rest)) [ true ↦ refl | false ↦ refl ]

-- it is
pub first_here : (ids : List ℕ) (p q : ℕ → Bool) (near : List ℕ) (i id : ℕ) → i < length near
    → slice_index ids (slice_index near i) ≡ id → p (slice_index ids (slice_index near i)) ≡ true
    → q (slice_index ids (slice_index near i)) ≡ true
    → first_among ids p q (drop i near) ≡ first_among ids p q near → Some id ≡ first_among ids p q near
first_here ids p q near i id short at read apart so_far =
    let c = slice_index ids (slice_index near i) in
    let rest = first_among ids p q (drop (i + 1) near) in
    ap (λ k. Some k) (sym at)
    ∙ sym (first-drop ids p q near i short ∙ ap (λ b. cond b (cond (q c) (Some c) rest) rest) read
    ∙ ap (λ b. cond b (Some c) rest) apart) ∙ so_far

-- it fails the first test
pub first_unread : (ids : List ℕ) (p q : ℕ → Bool) (near : List ℕ) (i : ℕ) (all : Option ℕ) → i < length near
    → p (slice_index ids (slice_index near i)) ≡ false
    → first_among ids p q (drop i near) ≡ all → first_among ids p q (drop (i + 1) near) ≡ all
first_unread ids p q near i all short unread so_far =
    let c = slice_index ids (slice_index near i) in
    let rest = first_among ids p q (drop (i + 1) near) in
    sym (first-drop ids p q near i short ∙ ap (λ b. cond b (cond (q c) (Some c) rest) rest) unread) ∙ so_far

-- or the second
pub first_alike : (ids : List ℕ) (p q : ℕ → Bool) (near : List ℕ) (i : ℕ) (all : Option ℕ) → i < length near
    → p (slice_index ids (slice_index near i)) ≡ true → q (slice_index ids (slice_index near i)) ≡ false
    → first_among ids p q (drop i near) ≡ all → first_among ids p q (drop (i + 1) near) ≡ all
first_alike ids p q near i all short read alike so_far =
    let c = slice_index ids (slice_index near i) in
    let rest = first_among ids p q (drop (i + 1) near) in
    sym (first-drop ids p q near i short ∙ ap (λ b. cond b (cond (q c) (Some c) rest) rest) read
    ∙ ap (λ b. cond b (Some c) rest) alike) ∙ so_far

-- what is read at any place is the value of its id, where the ids ascend
pub read_at-place : {X : Type 0} (d : X) (ids : List ℕ) (xs : List X) (ix : ℕ) (x : X) → IsStrictlyIncreasing ids
    → length xs ≡ length ids → ix < length ids → x ≡ slice_index_or xs ix x → value_at d ids xs (slice_index ids ix) ≡ x
read_at-place d ids xs ix x up same short read =
    value_at-place d ids xs ix up same short ∙ get_or_default xs ix d x (omega arith) ∙ sym read

pub is_none : {X : Type 0} (o : Option X) → is_some o ≡ false → None ≡ o
is_none None is = refl
is_none (Some x) is = absurd (true≢false is)

-- where nothing else is refused, the case is taken or not enabled
pub judged-ends : {L : Type 0} (taken r : Result L StepRefusal) (next : Option L) → taken ≡ judged None None next
    → MatchResult r (λ local. next ≡ Some local) (λ f. f ≢ NoMemory → (f ≡ NotEnabled) × (next ≡ None))
    → MatchResult r (λ local. taken ≡ Ok local) (λ f. f ≢ NoMemory → taken ≡ Err f)
judged-ends taken (Ok local) next is told = is ∙ ap (judged None None) told
judged-ends taken (Err f) next is refused =
    λ other. is ∙ ap (judged None None) (refused other).1 ∙ ap (λ e. Err e) (sym (refused other).0)

-- whether the case is taken is whether it leaves a state
pub taken-next : {L : Type 0} (outcome : Result L StepRefusal) (taken : Bool) (n : Option L) → taken ≡ is_some n
    → outcome ≡ judged None None n → taken ≡ is_ok outcome
taken-next {L} outcome taken n can is = can ∙ told n ∙ ap is_ok (sym is)
  where
    told : (n : Option L) → is_some n ≡ is_ok (judged None None n)
    told None = refl
    told (Some new) = refl

module _ {L : Type 0} (app : App L) (g : Graph) (K : ℕ) (w : ℕ → WaveRegs) (l : ℕ → L) (i case : ℕ) (with : Option ℕ)
  where
    -- the choice fits and no neighbour that is read is apart: what the case does, seen from its parts
    pub outcome-next : (r : Option Reads) (here k : ℕ) (own : L) (s : List (ℕ × L)) (n : Option L) → r ≡ app.reads case
        → None ≡ misfit r with → None ≡ first_apart w i (filter (reads_near r with) (neighbours_of g i))
        → here ≡ i → k ≡ K → own ≡ l i → s ≡ map (λ j. (j, l j)) (filter (reads_near r with) (neighbours_of g i))
        → app.next here k case with own s ≡ n → case_outcome_of app g K w l i case with ≡ judged None None n
    outcome-next r here k own s n reads fits agree same_id same_bound same_own same_seen next =
        ap (λ o. outcome_with o) (sym reads)
        ∙ ap (λ f. judged f (first_apart w i (read_by r))
        (app.next i K case with (l i) (map (λ j. (j, l j)) (read_by r)))) (sym fits)
        ∙ ap (λ o. judged None o (app.next i K case with (l i) (map (λ j. (j, l j)) (read_by r)))) (sym agree)
        ∙ ap (λ m. judged None None m)
        (ap (λ t. app.next i K case with (l i) t) (sym same_seen) ∙ ap (λ x. app.next i K case with x s) (sym same_own)
        ∙ ap (λ b. app.next i b case with own s) (sym same_bound) ∙ ap (λ j. app.next j k case with own s) (sym same_id)
        ∙ next)
      where
        read_by : Option Reads → List ℕ
        read_by o = filter (reads_near o with) (neighbours_of g i)

        outcome_with : Option Reads → Result L StepRefusal
        outcome_with o =
            judged (misfit o with) (first_apart w i (read_by o))
            (app.next i K case with (l i) (map (λ j. (j, l j)) (read_by o)))

    pub acted_of-strange_node : is_node g i ≡ false
        → acted_of app g K w l i case with ≡ Err StrangeNode
    acted_of-strange_node none =
        ap (λ b. cond (not b) (Err StrangeNode)
        (cond (not (is_neighbour g i with)) (Err StrangeNeighbour) (case_outcome_of app g K w l i case with))) none

    pub acted_of-strange_neighbour : is_node g i ≡ true → is_neighbour g i with ≡ false
        → acted_of app g K w l i case with ≡ Err StrangeNeighbour
    acted_of-strange_neighbour node stranger =
        ap (λ b. cond (not b) (Err StrangeNode)
        (cond (not (is_neighbour g i with)) (Err StrangeNeighbour) (case_outcome_of app g K w l i case with))) node
        ∙ ap (λ b. cond (not b) (Err StrangeNeighbour) (case_outcome_of app g K w l i case with)) stranger

    pub acted_of-outcome : is_node g i ≡ true → is_neighbour g i with ≡ true
        → acted_of app g K w l i case with ≡ case_outcome_of app g K w l i case with
    acted_of-outcome node neighbour =
        ap (λ b. cond (not b) (Err StrangeNode)
        (cond (not (is_neighbour g i with)) (Err StrangeNeighbour) (case_outcome_of app g K w l i case with))) node
        ∙ ap (λ b. cond (not b) (Err StrangeNeighbour) (case_outcome_of app g K w l i case with)) neighbour
