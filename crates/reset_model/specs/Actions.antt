-- The actions of the application: between whole configurations, and as the node judges them.
use Rattle.std.specs.Prelude.{◌≡◌, ℕ, ◌<◌, Bool, true, false, not, ◌==◌, if◌then◌else◌, List, Option, Some, None}
use Rattle.std.specs.Prelude.{Result, Ok, Err, map, filter, find}
use Rattle.app_interface.specs.Application.{App, Action, Fits, is_read, seen}
use Rattle.app_interface.specs.declared.reads.Reads.{Reads}
use Rattle.app_interface.specs.declared.reads.Reads.TheVariants.{Alone, Toward, One, All}
use Rattle.topology.specs.Graph.{Graph, IsNode, AreLinked, neighbours_of, is_node}
use Rattle.wave_layer.specs.declared.regs.WaveRegs.{WaveRegs}
use Rattle.reset_model.specs.declared.step.StepRefusal.{StepRefusal}
use Rattle.reset_model.specs.declared.step.StepRefusal.TheVariants.{StrangeNode, StrangeNeighbour, NoSuchCase}
use Rattle.reset_model.specs.declared.step.StepRefusal.TheVariants.{WantsNeighbour, TakesNoNeighbour, Disagrees}
use Rattle.reset_model.specs.declared.step.StepRefusal.TheVariants.{NotEnabled}
use Rattle.reset_model.specs.declared.event.Event.TheVariants.{Act}
use Rattle.reset_model.specs.LocalSteps.{is_neighbour}
use Rattle.reset_model.specs.Steps.{IsNamed}

-- each of the nodes that are read is in i's session
abbrev pub AllAgree : Graph → (ℕ → WaveRegs) → ℕ → (ℕ → Bool) → Type 0
AllAgree g w i reads = (j : ℕ) → IsNode g j → reads j ≡ true → (w j).session ≡ (w i).session

-- j is the first of the nodes that are read, by ascending id, that is in another session than i
pub record IsFirstApart (g : Graph) (w : ℕ → WaveRegs) (i : ℕ) (reads : ℕ → Bool) (j : ℕ) : Type 0 where
  pub node : IsNode g j
  pub read : reads j ≡ true
  pub apart : (w j).session ≡ (w i).session → ⊥
  pub first : (k : ℕ) → IsNode g k → reads k ≡ true → k < j → (w k).session ≡ (w i).session

-- the case at i, with this choice of a neighbour, takes the local states l to l': processes
-- communicate only where their session numbers are equal
pub record ActStep {L : Type 0} (app : App L) (g : Graph) (K : ℕ) (w : ℕ → WaveRegs) (i case : ℕ) (with : Option ℕ)
    (l l' : ℕ → L) : Type 0 where
  pub agree : AllAgree g w i (is_read g i (app.reads case) with)
  pub action : Action app g K i case with l l'

-- the case names a neighbour
abbrev pub NamesOne : Reads → Type 0
NamesOne Alone = ⊥
NamesOne Toward = Unit {0}
NamesOne One = Unit {0}
NamesOne All = ⊥

-- why an action isn't a step: the first that applies, in this order
pub data ActRefused {L : Type 0} (app : App L) (g : Graph) (K : ℕ) (w : ℕ → WaveRegs) (l : ℕ → L) (i case : ℕ)
    (with : Option ℕ) : StepRefusal → Type 0 where
  strange_node : (IsNode g i → ⊥) → ActRefused app g K w l i case with StrangeNode
  strange_neighbour : (j : ℕ) → IsNode g i → with ≡ Some j → (AreLinked g i j → ⊥)
      → ActRefused app g K w l i case with StrangeNeighbour
  no_such_case : IsNamed g (Act i case with) → app.reads case ≡ None → ActRefused app g K w l i case with NoSuchCase
  wants_neighbour : (reads : Reads) → IsNamed g (Act i case with) → app.reads case ≡ Some reads → NamesOne reads
      → with ≡ None → ActRefused app g K w l i case with WantsNeighbour
  takes_no_neighbour : (reads : Reads) (j : ℕ) → IsNamed g (Act i case with) → app.reads case ≡ Some reads
      → (NamesOne reads → ⊥) → with ≡ Some j → ActRefused app g K w l i case with TakesNoNeighbour
  disagrees : (j : ℕ) → IsNode g i
      → Fits g i (app.reads case) with → IsFirstApart g w i (is_read g i (app.reads case) with) j
      → ActRefused app g K w l i case with (Disagrees j)
  not_enabled : IsNode g i → Fits g i (app.reads case) with → AllAgree g w i (is_read g i (app.reads case) with)
      → app.next i K case with (l i) (seen (is_read g i (app.reads case) with) l g.ids) ≡ None
      → ActRefused app g K w l i case with NotEnabled

-- ---- the same as the node judges it

-- the choice of a neighbour doesn't fit what the case reads
abbrev pub misfit : Option Reads → Option ℕ → Option StepRefusal
misfit None with = Some NoSuchCase
misfit (Some Alone) None = None
misfit (Some Alone) (Some j) = Some TakesNoNeighbour
misfit (Some Toward) None = Some WantsNeighbour
misfit (Some Toward) (Some j) = None
misfit (Some One) None = Some WantsNeighbour
misfit (Some One) (Some j) = None
misfit (Some All) None = None
misfit (Some All) (Some j) = Some TakesNoNeighbour

-- whether a case, with this choice, reads the neighbour j
abbrev pub reads_near : Option Reads → Option ℕ → ℕ → Bool
reads_near (Some All) with j = true
reads_near (Some One) (Some k) j = k == j
reads_near reads with j = false

-- the first of these ids that is in another session than i
abbrev pub first_apart : (ℕ → WaveRegs) → ℕ → List ℕ → Option ℕ
first_apart w i js = find (λ j. not ((w j).session == (w i).session)) js

-- the first refusal, and where there is none the state that the case leaves
abbrev pub judged : {L : Type 0} → Option StepRefusal → Option ℕ → Option L → Result L StepRefusal
judged (Some f) apart new = Err f
judged None (Some j) new = Err (Disagrees j)
judged None None (Some new) = Ok new
judged None None None = Err NotEnabled

-- what the case at i does with this choice, where i is a node and the choice a neighbour
abbrev pub case_outcome_of : {L : Type 0} → App L → Graph → ℕ → (ℕ → WaveRegs) → (ℕ → L) → ℕ → ℕ → Option ℕ
    → Result L StepRefusal
case_outcome_of app g K w l i case with =
    let read : List ℕ = filter (reads_near (app.reads case) with) (neighbours_of g i) in
    judged (misfit (app.reads case) with) (first_apart w i read)
    (app.next i K case with (l i) (map (λ j. (j, l j)) read))

-- the local state that the action leaves, or the first refusal
abbrev pub acted_of : {L : Type 0} → App L → Graph → ℕ → (ℕ → WaveRegs) → (ℕ → L) → ℕ → ℕ → Option ℕ
    → Result L StepRefusal
acted_of app g K w l i case with =
    if not (is_node g i) then Err StrangeNode
    else (if not (is_neighbour g i with) then Err StrangeNeighbour
    else case_outcome_of app g K w l i case with)
