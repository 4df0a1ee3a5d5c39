-- An entry keeps the wave registers of all identifiers but its own, and whether they are up.
use Rattle.std.proofs.Common.{◌≡◌, ◌≢◌, ℕ, Bool, true, false, cond, not, ◌&&◌, ◌||◌, ◌==◌, Contains, List, Option, Some}
use Rattle.std.proofs.Common.{None, Result, Ok, Err, refl, ap, subst, ◌∙◌}
use Rattle.std.proofs.lemmas.Bool.{ne_eqb}
use Rattle.app_interface.specs.Application.{App}
use Rattle.topology.specs.Changing.{first_of, with_link, with_node, without_link, without_node}
use Rattle.topology.specs.Graph.{Graph, has, is_node}
use Rattle.topology.proofs.Membership.{has-Contains}
use Rattle.topology.proofs.NodeChanges.{node_joined, node_left}
use Rattle.wave_layer.specs.declared.regs.WaveRegs.{WaveRegs}
use Rattle.wave_layer.specs.declared.regs.Phase.TheVariants.{Normal}
use Rattle.reset_model.specs.declared.event.Event.{Event}
use Rattle.reset_model.specs.declared.plan.Effect.{Effect}
use Rattle.reset_model.specs.declared.plan.Effect.TheVariants.{Tree, Wave, Local}
use Rattle.reset_model.specs.declared.step.StepRefusal.TheVariants.{StrangeNode}
use Rattle.reset_model.specs.Configuration.{Configuration, IsShaped, put_at, value_at, wave_of, with_wave}
use Rattle.reset_model.specs.Planned.{Planned, after_effect, outcome_of, planned, written}
use Rattle.reset_model.specs.Steps.{event_node}
use Rattle.reset_model.specs.Topologies.{comes_up, with_topology}
use Rattle.reset_model.specs.View.{view_of}
use Rattle.reset_model.proofs.OtherGraphs.{wave_there}
use Rattle.reset_model.proofs.Positions.{value_at-put_at_other}
use Rattle.fault_inject.specs.Effects.{damaged, injected, refusals, with_read}
use Rattle.fault_inject.specs.declared.fault.Fault.{Fault}
use Rattle.fault_inject.specs.declared.fault.Fault.TheVariants.{SetTree, SetWave, SetLocal, LinkDown, LinkUp}
use Rattle.fault_inject.specs.declared.fault.Fault.TheVariants.{NodeDown, NodeUp}
use Rattle.fault_inject.specs.declared.refusal.FaultRefusal.{FaultRefusal}
use Rattle.history.specs.declared.entry.Entry.{Entry}
use Rattle.history.specs.declared.entry.Entry.TheVariants.{Step, Disturbed}
use Rattle.history.specs.Entries.{entered, left_by_fault, left_by_step}
use Rattle.space_time_diagram.specs.Bands.{entry_node, fault_node, shown_of}

-- the identifiers stay, and of those other than this one so do the wave registers, and whether they are up
pub record KeepsOthers {L : Type 0} (c : Configuration L) (at : ℕ) (after : Configuration L) : Type 0 where
  pub ids : after.graph.ids ≡ c.graph.ids
  pub others : (i : ℕ) → Contains c.graph.ids i → i ≢ at → wave_of after i ≡ wave_of c i
  pub up : (i : ℕ) → Contains c.graph.ids i → i ≢ at → is_node after.graph i ≡ is_node c.graph i

-- and so does what is shown of them
pub shown_kept : {L : Type 0} (c : Configuration L) (at : ℕ) (after : Configuration L) → KeepsOthers c at after
    → (i : ℕ) → Contains c.graph.ids i → i ≢ at → shown_of after i ≡ shown_of c i
shown_kept c at after keeps i there other =
    ap (λ b. cond b (Some (wave_of after i)) None) (keeps.up i there other)
    ∙ ap (λ regs. cond (is_node c.graph i) (Some regs) None) (keeps.others i there other)

-- the same of what is left, if anything is
abbrev KeepsIfLeft : {L : Type 0} → Configuration L → ℕ → Option (Configuration L) → Type 0
KeepsIfLeft c at None = Unit {0}
KeepsIfLeft c at (Some after) = KeepsOthers c at after

-- the registers that no identifier has
abbrev none : WaveRegs
none = record { phase = Normal; session = 0 }

-- ---- who comes up: nobody, or the node itself

same_up : (b : Bool) → b && not b ≡ false
same_up true = refl
same_up false = refl

left_up : (t b : Bool) → (t && b) && not b ≡ false
left_up true true = refl
left_up true false = refl
left_up false b = refl

joined_up : (b h : Bool) → ((b || false) && h) && not b ≡ false
joined_up true true = refl
joined_up true false = refl
joined_up false h = refl

down_up : (g : Graph) (at i : ℕ) → comes_up g (without_node g at) i ≡ false
down_up g at i = ap (λ b. b && not (is_node g i)) (node_left g at i) ∙ left_up (not (i == at)) (is_node g i)

up_up : (g : Graph) (at i : ℕ) → i ≢ at → comes_up g (with_node g at) i ≡ false
up_up g at i other =
    ap (λ b. b && not (is_node g i)) (node_joined g at i)
    ∙ ap (λ b. ((is_node g i || b) && has g.ids i) && not (is_node g i)) (ne_eqb i at other)
    ∙ joined_up (is_node g i) (has g.ids i)

-- the nodes that are up: those that were, except the node itself

joined_still : (b h : Bool) → h ≡ true → (b || false) && h ≡ b
joined_still true true there = refl
joined_still false true there = refl
joined_still b false there = absurd (cc)

up_without : (g : Graph) (at i : ℕ) → i ≢ at → is_node (without_node g at) i ≡ is_node g i
up_without g at i other = node_left g at i ∙ ap (λ b. not b && is_node g i) (ne_eqb i at other)

up_with : (g : Graph) (at i : ℕ) → Contains g.ids i → i ≢ at → is_node (with_node g at) i ≡ is_node g i
up_with g at i there other =
    node_joined g at i
    ∙ ap (λ b. (is_node g i || b) && has g.ids i) (ne_eqb i at other)
    ∙ joined_still (is_node g i) (has g.ids i) (has-Contains g.ids i there)

module _ {L : Type 0} (app : App L) (from_text : List ℕ → Option L) where
  -- ---- a step

  put_keeps : (c : Configuration L) (at : ℕ) (regs : WaveRegs) (after : Configuration L)
      → after.graph ≡ c.graph → after.waves ≡ put_at c.graph.ids c.waves at regs → KeepsOthers c at after
  put_keeps c at regs after graph waves = record {
    ids = ap (λ (g : Graph). g.ids) graph;
    others = λ i there other.
        ap (λ (g : Graph). value_at none g.ids after.waves i) graph
        ∙ ap (λ ws. value_at none c.graph.ids ws i) waves
        ∙ value_at-put_at_other none c.graph.ids c.waves at i regs other;
    up = λ i there other. ap (λ (g : Graph). is_node g i) graph;
  }

  effect_keeps : (c : Configuration L) (at : ℕ) (does : Effect L) → KeepsOthers c at (after_effect c at does)
  effect_keeps c at (Tree regs) = record { ids = refl; others = λ i there other. refl; up = λ i there other. refl }
  effect_keeps c at (Wave regs None) = put_keeps c at regs (after_effect c at (Wave regs None)) refl refl
  effect_keeps c at (Wave regs (Some local)) =
      put_keeps c at regs (after_effect c at (Wave regs (Some local))) refl refl
  effect_keeps c at (Local local) = record { ids = refl; others = λ i there other. refl; up = λ i there other. refl }

  step_keeps : (c : Configuration L) (e : Event) → KeepsIfLeft c (event_node e) (left_by_step (outcome_of app c e))
  step_keeps c e =
      by_node (is_node c.graph (event_node e)) (planned app (view_of app c (event_node e)) e)
    where
      by_node : (up : Bool) (does : Planned L) → KeepsIfLeft c (event_node e)
          (left_by_step (cond (not up) (Err StrangeNode) (written c (event_node e) does)))
      by_node false does = tt
      by_node true (Err f) = tt
      by_node true (Ok does) = effect_keeps c (event_node e) does.0

  -- ---- a fault

  read_keeps : (c : Configuration L) (at : ℕ) (o : Option L) → KeepsOthers c at (with_read c at o)
  read_keeps c at (Some local) = record { ids = refl; others = λ i there other. refl; up = λ i there other. refl }
  read_keeps c at None = record { ids = refl; others = λ i there other. refl; up = λ i there other. refl }

  topology_keeps : (c : Configuration L) → IsShaped c → (at : ℕ) (g : Graph) → g.ids ≡ c.graph.ids
      → ((i : ℕ) → i ≢ at → comes_up c.graph g i ≡ false)
      → ((i : ℕ) → Contains c.graph.ids i → i ≢ at → is_node g i ≡ is_node c.graph i)
      → KeepsOthers c at (with_topology app c g)
  topology_keeps c shaped at g same down up = record {
    ids = same;
    others = λ i there other.
        wave_there app c g same shaped i there ∙ ap (λ b. cond b none (wave_of c i)) (down i other);
    up = up;
  }

  damaged_keeps : (c : Configuration L) → IsShaped c → (f : Fault)
      → KeepsOthers c (fault_node f) (damaged app from_text c f)
  damaged_keeps c shaped (SetTree at regs) =
      record { ids = refl; others = λ i there other. refl; up = λ i there other. refl }
  damaged_keeps c shaped (SetWave at regs) = put_keeps c at regs (with_wave c at regs) refl refl
  damaged_keeps c shaped (SetLocal at text) = read_keeps c at (from_text text)
  damaged_keeps c shaped (LinkDown a b) =
      topology_keeps c shaped a (without_link c.graph a b) refl (λ i other. same_up (is_node c.graph i))
      (λ i there other. refl)
  damaged_keeps c shaped (LinkUp a b) =
      topology_keeps c shaped a (with_link c.graph a b) refl (λ i other. same_up (is_node c.graph i))
      (λ i there other. refl)
  damaged_keeps c shaped (NodeDown at) =
      topology_keeps c shaped at (without_node c.graph at) refl (λ i other. down_up c.graph at i)
      (λ i there other. up_without c.graph at i other)
  damaged_keeps c shaped (NodeUp at) =
      topology_keeps c shaped at (with_node c.graph at) refl (λ i other. up_up c.graph at i other)
      (λ i there other. up_with c.graph at i there other)

  fault_keeps : (c : Configuration L) → IsShaped c → (f : Fault)
      → KeepsIfLeft c (fault_node f) (left_by_fault (injected app from_text c f))
  unfolding injected
  fault_keeps c shaped f = by_refusal (first_of (refusals from_text c f))
    where
      by_refusal : (o : Option FaultRefusal) → KeepsIfLeft c (fault_node f)
          (left_by_fault ((elim o as (λ _. Configuration L → Result (Configuration L) FaultRefusal)
          [ None ↦ λ d. Ok d | Some refusal ↦ λ d. Err refusal ]) (damaged app from_text c f)))
      by_refusal None = damaged_keeps c shaped f
      by_refusal (Some r) = tt

  -- ---- an entry

  left_keeps : (c after : Configuration L) (at : ℕ) (o : Option (Configuration L)) → KeepsIfLeft c at o → o ≡ Some after
      → KeepsOthers c at after
  left_keeps c after at None keeps is = absurd (cc)
  left_keeps c after at (Some left) keeps is = let same : left ≡ after = cc in subst (KeepsOthers c at) same keeps

  pub entry_keeps : (c after : Configuration L) (entry : Entry) → IsShaped c
      → entered app from_text c entry ≡ Some after → KeepsOthers c (entry_node entry) after
  entry_keeps c after (Step e) shaped is =
      left_keeps c after (event_node e) (left_by_step (outcome_of app c e)) (step_keeps c e) is
  entry_keeps c after (Disturbed f) shaped is =
      left_keeps c after (fault_node f) (left_by_fault (injected app from_text c f)) (fault_keeps c shaped f) is
