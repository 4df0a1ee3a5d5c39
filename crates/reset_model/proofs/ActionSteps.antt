-- What a node judges of an action is a step of the application on the whole graph, or its first refusal.
use Rattle.std.proofs.Common.{◌≡◌, ◌≢◌, ℕ, ◌==◌, Bool, true, false, not, ◌&&◌, cond, nat_eq, List, [], ◌∷◌, filter, map}
use Rattle.std.proofs.Common.{Option, Some, None, Result, Ok, Err, ◌⊎◌, inl, inr, refl, sym, ap, ap₂, subst, ◌∙◌}
use Rattle.std.proofs.Common.{true≢false}
use Rattle.std.proofs.lemmas.Bool.{eq-eqb}
use Rattle.std.proofs.lemmas.Bool.Decides.{eqb_tells}
use Rattle.std.proofs.lemmas.List.Kept.{IsStrictlyIncreasing-filter}
use Rattle.app_interface.specs.Application.{App, Fits, is_read, seen}
use Rattle.app_interface.specs.declared.reads.Reads.{Reads}
use Rattle.app_interface.specs.declared.reads.Reads.TheVariants.{Alone, Toward, One, All}
use Rattle.topology.proofs.Membership.{has-Contains, Contains-has, has-filter}
use Rattle.topology.specs.Graph.{Graph, IsGraph, IsNode, AreLinked, are_linked, neighbours_of, has}
use Rattle.wave_layer.specs.declared.regs.WaveRegs.{WaveRegs}
use Rattle.reset_model.specs.declared.step.StepRefusal.{StepRefusal}
use Rattle.reset_model.specs.Actions.{AllAgree, IsFirstApart, ActRefused, strange_node, strange_neighbour, no_such_case}
use Rattle.reset_model.specs.Actions.{wants_neighbour, takes_no_neighbour, disagrees, not_enabled, misfit, reads_near}
use Rattle.reset_model.specs.Actions.{first_apart, judged, case_outcome_of, acted_of}
use Rattle.reset_model.specs.declared.event.Event.TheVariants.{Act}
use Rattle.reset_model.specs.LocalSteps.{is_neighbour}
use Rattle.reset_model.specs.Steps.{IsNamed}
use Rattle.reset_model.proofs.ReadNodes.{read_node}
use Rattle.reset_model.proofs.FirstFound.{find-first, find-none}

-- an action that is no refusal
pub record IsDone {L : Type 0} (app : App L) (g : Graph) (K : ℕ) (w : ℕ → WaveRegs) (l : ℕ → L) (i case : ℕ)
    (with : Option ℕ) (new : L) : Type 0 where
  pub node : IsNode g i
  pub fits : Fits g i (app.reads case) with
  pub agree : AllAgree g w i (is_read g i (app.reads case) with)
  pub next : app.next i K case with (l i) (seen (is_read g i (app.reads case) with) l g.ids) ≡ Some new

abbrev pub IsActed : {L : Type 0} → App L → Graph → ℕ → (ℕ → WaveRegs) → (ℕ → L) → ℕ → ℕ → Option ℕ
    → Result L StepRefusal → Type 0
IsActed app g K w l i case with (Ok new) = IsDone app g K w l i case with new
IsActed app g K w l i case with (Err f) = ActRefused app g K w l i case with f

-- what is seen of the ids that are read
pub seen-filter : {L : Type 0} (p : ℕ → Bool) (l : ℕ → L) (js : List ℕ)
    → seen p l js ≡ map (λ j. (j, l j)) (filter p js)
seen-filter p l [] = refl
seen-filter {L} p l (j ∷ js) =
    let rest = seen-filter p l js in
    elim (p j)
    as (λ b. cond b ((j, l j) ∷ seen p l js) (seen p l js)
    ≡ map (λ k. (k, l k)) (cond b (j ∷ filter p js) (filter p js)))
    [ true ↦ ap (λ r. (j, l j) ∷ r) rest | false ↦ rest ]

filter-filter : (p q r : ℕ → Bool) → ((j : ℕ) → p j ≡ (q j && r j)) → (js : List ℕ)
    → filter p js ≡ filter r (filter q js)
filter-filter p q r both [] = refl
filter-filter p q r both (j ∷ js) = at (q j) (r j) refl refl (filter-filter p q r both js)
  where
    at : (b d : Bool) → q j ≡ b → r j ≡ d → filter p js ≡ filter r (filter q js)
        → filter p (j ∷ js) ≡ filter r (filter q (j ∷ js))
    at true true is_q is_r rest = rw (both j, is_q, is_r) (ap (λ ks. j ∷ ks) rest)
    at true false is_q is_r rest = rw (both j, is_q, is_r) rest
    at false d is_q is_r rest = rw (both j, is_q) rest

module _ (g : Graph) (i : ℕ) where
  -- a case that fits reads of the whole graph what it reads of the neighbours
  read_near : (r : Option Reads) (with : Option ℕ) → Fits g i r with → (j : ℕ)
      → is_read g i r with j ≡ (are_linked g i j && reads_near r with j)
  read_near None with fits j = absurd fits
  read_near (Some Alone) None fits j = none (are_linked g i j)
    where
      none : (b : Bool) → false ≡ (b && false)
      none true = refl
      none false = refl
  read_near (Some Alone) (Some k) fits j = absurd fits
  read_near (Some Toward) None fits j = absurd fits
  read_near (Some Toward) (Some k) fits j = none (are_linked g i j)
    where
      none : (b : Bool) → false ≡ (b && false)
      none true = refl
      none false = refl
  read_near (Some One) None fits j = absurd fits
  read_near (Some One) (Some k) fits j = at (eqb_tells j k) (eqb_tells k j)
    where
      none : (b : Bool) → false ≡ (b && false)
      none true = refl
      none false = refl

      at : ((nat_eq j k ≡ true) × (j ≡ k)) ⊎ ((nat_eq j k ≡ false) × (j ≢ k))
          → ((nat_eq k j ≡ true) × (k ≡ j)) ⊎ ((nat_eq k j ≡ false) × (k ≢ j))
          → nat_eq j k ≡ (are_linked g i j && nat_eq k j)
      at (inl same) (inl back) = rw (same.0, back.0) (sym (ap (λ b. b && true) (ap (are_linked g i) same.1 ∙ fits)))
      at (inl same) (inr back) = absurd (back.1 (sym same.1))
      at (inr other) (inl back) = absurd (other.1 (sym back.1))
      at (inr other) (inr back) = rw (other.0, back.0) (none (are_linked g i j))
  read_near (Some All) None fits j = all (are_linked g i j)
    where
      all : (b : Bool) → b ≡ (b && true)
      all true = refl
      all false = refl
  read_near (Some All) (Some k) fits j = absurd fits

  pub read_ids : (r : Option Reads) (with : Option ℕ)
      → Fits g i r with → filter (is_read g i r with) g.ids ≡ filter (reads_near r with) (neighbours_of g i)
  read_ids r with fits =
      filter-filter (is_read g i r with) (are_linked g i) (reads_near r with) (read_near r with fits) g.ids

-- a choice that fits what the case reads, or the reason why it doesn't
abbrev IsFit : {L : Type 0} → App L → Graph → ℕ → (ℕ → WaveRegs) → (ℕ → L) → ℕ → ℕ → Option ℕ → Option Reads
    → Option StepRefusal → Type 0
IsFit app g K w l i case with r None = Fits g i r with
IsFit app g K w l i case with r (Some f) = app.reads case ≡ r → ActRefused app g K w l i case with f

fitting : {L : Type 0} (app : App L) (g : Graph) (K : ℕ) (w : ℕ → WaveRegs) (l : ℕ → L) (i case : ℕ) (r : Option Reads)
    (with : Option ℕ) → IsNamed g (Act i case with) → IsFit app g K w l i case with r (misfit r with)
fitting app g K w l i case None with aimed = λ reads. no_such_case aimed reads
fitting app g K w l i case (Some Alone) None aimed = tt
fitting app g K w l i case (Some Alone) (Some j) aimed = λ reads. takes_no_neighbour Alone j aimed reads (λ h. h) refl
fitting app g K w l i case (Some Toward) None aimed = λ reads. wants_neighbour Toward aimed reads tt refl
fitting app g K w l i case (Some Toward) (Some j) aimed = aimed.neighbour j refl
fitting app g K w l i case (Some One) None aimed = λ reads. wants_neighbour One aimed reads tt refl
fitting app g K w l i case (Some One) (Some j) aimed = aimed.neighbour j refl
fitting app g K w l i case (Some All) None aimed = tt
fitting app g K w l i case (Some All) (Some j) aimed = λ reads. takes_no_neighbour All j aimed reads (λ h. h) refl

module _ {L : Type 0} (app : App L) (g : Graph) (graph : IsGraph g) (K : ℕ) (w : ℕ → WaveRegs) (l : ℕ → L) (i case : ℕ)
    (with : Option ℕ) where
  abbrev reads : ℕ → Bool
  reads = is_read g i (app.reads case) with

  abbrev apart : ℕ → Bool
  apart j = not ((w j).session == (w i).session)

  together : (j : ℕ) → apart j ≡ false → (w j).session ≡ (w i).session
  together j is = at (eqb_tells (w j).session (w i).session)
    where
      at : ((nat_eq (w j).session (w i).session ≡ true) × ((w j).session ≡ (w i).session))
          ⊎ ((nat_eq (w j).session (w i).session ≡ false) × ((w j).session ≢ (w i).session))
          → (w j).session ≡ (w i).session
      at (inl same) = same.1
      at (inr other) = absurd (true≢false (sym (ap not other.0) ∙ is))

  has_read : (j : ℕ) → IsNode g j → reads j ≡ true → has (filter reads g.ids) j ≡ true
  has_read j node read = has-filter reads g.ids j ∙ ap₂ (λ b d. b && d) read (has-Contains g.ids j (graph.within j node))

  first_is : Fits g i (app.reads case) with → (j : ℕ) → first_apart w i (filter reads g.ids) ≡ Some j → IsFirstApart g w i reads j
  first_is fits j is =
      let found =
      find-first apart (filter reads g.ids) j (IsStrictlyIncreasing-filter reads g.ids graph.ascending) is in
      let there = sym (has-filter reads g.ids j) ∙ found.0 in
      record {
        node = read_node g graph i (app.reads case) with j fits (both (reads j) (has g.ids j) there).0;
        read = (both (reads j) (has g.ids j) there).0;
        apart = λ same. true≢false (sym found.1 ∙ ap not (eq-eqb _ _ same));
        first = λ k node read low. together k (found.2 k (has_read k node read) low);
      }
    where
      both : (b d : Bool) → (b && d) ≡ true → (b ≡ true) × (d ≡ true)
      both true true is = (refl, refl)
      both true false is = absurd (true≢false (sym is))
      both false d is = absurd (true≢false (sym is))

  agree_is : first_apart w i (filter reads g.ids) ≡ None → AllAgree g w i reads
  agree_is is = λ j node read. together j (find-none apart (filter reads g.ids) j is (has_read j node read))

  abbrev after : Option L
  after = app.next i K case with (l i) (seen reads l g.ids)

  judge : IsNode g i → Fits g i (app.reads case) with → (o : Option ℕ) → first_apart w i (filter reads g.ids) ≡ o
      → (n : Option L) → after ≡ n → IsActed app g K w l i case with (judged None o n)
  judge node fits (Some j) found n next = disagrees j node fits (first_is fits j found)
  judge node fits None found (Some new) next = record { node = node; fits = fits; agree = agree_is found; next = next }
  judge node fits None found None next = not_enabled node fits (agree_is found) next

  outcome : IsNamed g (Act i case with) → IsActed app g K w l i case with (case_outcome_of app g K w l i case with)
  outcome aimed = at (misfit (app.reads case) with) refl (fitting app g K w l i case (app.reads case) with aimed)
    where
      near : List ℕ
      near = filter (reads_near (app.reads case) with) (neighbours_of g i)

      at : (f : Option StepRefusal) → misfit (app.reads case) with ≡ f
          → IsFit app g K w l i case with (app.reads case) f
          → IsActed app g K w l i case
          with (judged (misfit (app.reads case) with) (first_apart w i near)
          (app.next i K case with (l i) (map (λ j. (j, l j)) near)))
      at (Some f) is refused = rw is (refused refl)
      at None is fits =
          let ids : filter reads g.ids ≡ near = read_ids g i (app.reads case) with fits in
          let P : List ℕ → Type 0 =
          λ js. IsActed app g K w l i case
          with (judged None (first_apart w i js) (app.next i K case with (l i) (map (λ j. (j, l j)) js))) in
          let Q : List (ℕ × L) → Type 0 =
          λ s. IsActed app g K w l i case
          with (judged None (first_apart w i (filter reads g.ids)) (app.next i K case with (l i) s)) in
          rw is (subst P ids (subst Q (seen-filter reads l g.ids) (judge aimed.node fits _ refl _ refl)))

  stranger : (o : Option ℕ) → is_neighbour g i o ≡ false → (j : ℕ) × (o ≡ Some j) × (AreLinked g i j → ⊥)
  stranger None is = absurd (true≢false is)
  stranger (Some j) is = (j, refl, λ linked. true≢false (sym linked ∙ is))

  neighbour : (o : Option ℕ) → is_neighbour g i o ≡ true → (j : ℕ) → o ≡ Some j → AreLinked g i j
  neighbour o is j named = let P : Option ℕ → Type 0 = λ o. is_neighbour g i o ≡ true in subst P named is

  pub acted_steps : IsActed app g K w l i case with (acted_of app g K w l i case with)
  acted_steps = at (has g.nodes i) (is_neighbour g i with) refl refl
    where
      at : (b d : Bool) → has g.nodes i ≡ b → is_neighbour g i with ≡ d
          → IsActed app g K w l i case with (acted_of app g K w l i case with)
      at false d node near = rw node (strange_node (λ there. true≢false (sym (has-Contains g.nodes i there) ∙ node)))
      at true false node near =
          let other = stranger with near in
          rw (node, near) (strange_neighbour other.0 (Contains-has g.nodes i node) other.1 other.2)
      at true true node near =
          rw (node, near) (outcome (record { node = Contains-has g.nodes i node; neighbour = neighbour with near }))
