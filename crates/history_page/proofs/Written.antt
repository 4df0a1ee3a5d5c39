-- An entry that writes at one node alone.
use Rattle.std.proofs.Common.{◌≡◌, ◌≢◌, ℕ, Bool, true, false, not, cond, List, Option, Some, None, Result, Ok, Err, refl}
use Rattle.std.proofs.Common.{sym, ap, ap₂, subst, ◌∙◌}
use Rattle.app_interface.specs.Application.{App}
use Rattle.topology.specs.Changing.{first_of}
use Rattle.topology.specs.Graph.{is_node}
use Rattle.tree_layer.specs.declared.regs.TreeRegs.{TreeRegs}
use Rattle.wave_layer.specs.declared.regs.WaveRegs.{WaveRegs}
use Rattle.wave_layer.specs.declared.regs.Phase.TheVariants.{Normal}
use Rattle.reset_model.specs.declared.plan.Effect.{Effect}
use Rattle.reset_model.specs.declared.plan.Effect.TheVariants as effect
use Rattle.reset_model.specs.declared.step.StepRefusal.TheVariants.{StrangeNode}
use Rattle.reset_model.specs.Configuration.{Configuration, local_of, tree_of, wave_of}
use Rattle.reset_model.specs.Configuration.{with_local, with_tree, with_wave}
use Rattle.reset_model.specs.Planned.{Planned, after_effect, planned, written}
use Rattle.reset_model.specs.Steps.{event_node}
use Rattle.reset_model.specs.View.{Neighbour, near_of, view_of}
use Rattle.reset_model.proofs.Positions.{value_at-put_at_other}
use Rattle.fault_inject.specs.Effects.{damaged, injected, refusals, with_read}
use Rattle.fault_inject.specs.declared.fault.Fault.{Fault}
use Rattle.fault_inject.specs.declared.fault.Fault.TheVariants.{SetTree, SetWave, SetLocal, LinkDown, LinkUp}
use Rattle.fault_inject.specs.declared.fault.Fault.TheVariants.{NodeDown, NodeUp}
use Rattle.fault_inject.specs.declared.refusal.FaultRefusal.{FaultRefusal}
use Rattle.history.specs.declared.entry.Entry.{Entry}
use Rattle.history.specs.declared.entry.Entry.TheVariants.{Step, Disturbed}
use Rattle.history.specs.Entries.{entered, left_by_fault, left_by_step}
use Rattle.history_page.specs.Known.{written_at}

module _ {L : Type 0} (app : App L) where
  -- d is as c is, but for what node i has
  pub record IsWrittenAt (c d : Configuration L) (i : ℕ) : Type 0 where
    pub graph : d.graph ≡ c.graph
    pub modulus : d.modulus ≡ c.modulus
    pub near : (k : ℕ) → k ≢ i → near_of app d k ≡ near_of app c k

  module _ (c : Configuration L) (i : ℕ) where
    abbrev here : ℕ → TreeRegs → WaveRegs → L → Neighbour L
    here k t w l = record { id = k; tree = t; wave = w; local = l }

    tree_stays : (regs : TreeRegs) (k : ℕ) → k ≢ i → tree_of (with_tree c i regs) k ≡ tree_of c k
    tree_stays regs k away =
        value_at-put_at_other (record { root = 0; father = 0; dist = 0 }) c.graph.ids c.trees i k regs away

    wave_stays : (regs : WaveRegs) (k : ℕ) → k ≢ i → wave_of (with_wave c i regs) k ≡ wave_of c k
    wave_stays regs k away =
        value_at-put_at_other (record { phase = Normal; session = 0 }) c.graph.ids c.waves i k regs away

    local_stays : (local : L) (k : ℕ) → k ≢ i → local_of app (with_local c i local) k ≡ local_of app c k
    local_stays local k away = value_at-put_at_other (app.start c.graph k) c.graph.ids c.locals i k local away

    pub tree_written : (regs : TreeRegs) → IsWrittenAt c (with_tree c i regs) i
    tree_written regs = record {
      graph = refl;
      modulus = refl;
      near = λ k away. ap (λ t. here k t (wave_of c k) (local_of app c k)) (tree_stays regs k away);
    }

    pub wave_written : (regs : WaveRegs) → IsWrittenAt c (with_wave c i regs) i
    wave_written regs = record {
      graph = refl;
      modulus = refl;
      near = λ k away. ap (λ w. here k (tree_of c k) w (local_of app c k)) (wave_stays regs k away);
    }

    pub local_written : (local : L) → IsWrittenAt c (with_local c i local) i
    local_written local = record {
      graph = refl;
      modulus = refl;
      near = λ k away. ap (λ l. here k (tree_of c k) (wave_of c k) l) (local_stays local k away);
    }

    effect_written : (does : Effect L) → IsWrittenAt c (after_effect c i does) i
    effect_written (effect.Tree regs) = tree_written regs
    effect_written (effect.Wave regs None) = wave_written regs
    effect_written (effect.Wave regs (Some local)) = record {
      graph = refl;
      modulus = refl;
      near = λ k away. ap₂ (λ w l. here k (tree_of c k) w l) (wave_stays regs k away) (local_stays local k away);
    }
    effect_written (effect.Local local) = local_written local

    step_written : (p : Planned L) (after : Configuration L) → left_by_step (written c i p) ≡ Some after
        → IsWrittenAt c after i
    step_written (Ok does) after is =
        let same : after_effect c i does.0 ≡ after = cc in
        subst (λ d. IsWrittenAt c d i) same (effect_written does.0)
    step_written (Err f) after is = absurd (cc)

    event_written : (up : Bool) (p : Planned L) (after : Configuration L)
        → left_by_step (cond (not up) (Err StrangeNode) (written c i p)) ≡ Some after → IsWrittenAt c after i
    event_written true p after is = step_written p after is
    event_written false p after is = absurd (cc)

  module _ (from_text : List ℕ → Option L) (c : Configuration L) where
    read_written : (at : ℕ) (o : Option L) → IsWrittenAt c (with_read c at o) at
    read_written at None = record { graph = refl; modulus = refl; near = λ k away. refl }
    read_written at (Some local) = local_written c at local

    pub damaged_written : (f : Fault) (i : ℕ) → written_at (Disturbed f) ≡ Some i → IsWrittenAt c (damaged app from_text c f) i
    damaged_written (SetTree at regs) i is =
        let same : at ≡ i = cc in subst (IsWrittenAt c (with_tree c at regs)) same (tree_written c at regs)
    damaged_written (SetWave at regs) i is =
        let same : at ≡ i = cc in subst (IsWrittenAt c (with_wave c at regs)) same (wave_written c at regs)
    damaged_written (SetLocal at text) i is =
        let same : at ≡ i = cc in
        subst (IsWrittenAt c (with_read c at (from_text text))) same (read_written at (from_text text))
    damaged_written (LinkDown a b) i is = absurd (cc)
    damaged_written (LinkUp a b) i is = absurd (cc)
    damaged_written (NodeDown at) i is = absurd (cc)
    damaged_written (NodeUp at) i is = absurd (cc)

    -- what a fault that is allowed leaves
    pub injected_is : (f : Fault) (after : Configuration L) → left_by_fault (injected app from_text c f) ≡ Some after
        → damaged app from_text c f ≡ after
    unfolding injected
    injected_is f after is = by_refusal (first_of (refusals from_text c f)) is
      where
        by_refusal : (o : Option FaultRefusal)
            → left_by_fault ((elim o as (λ _. Configuration L → Result (Configuration L) FaultRefusal)
            [ None ↦ λ d. Ok d | Some refusal ↦ λ d. Err refusal ]) (damaged app from_text c f)) ≡ Some after
            → damaged app from_text c f ≡ after
        by_refusal None is = cc
        by_refusal (Some r) is = absurd (cc)

    pub entered_written : (entry : Entry) (after : Configuration L) (i : ℕ) → written_at entry ≡ Some i
        → entered app from_text c entry ≡ Some after → IsWrittenAt c after i
    entered_written (Step e) after i at is =
        let same : event_node e ≡ i = cc in
        subst (IsWrittenAt c after) same
        (event_written c (event_node e) (is_node c.graph (event_node e)) (planned app (view_of app c (event_node e)) e)
        after is)
    entered_written (Disturbed f) after i at is =
        subst (λ d. IsWrittenAt c d i) (injected_is f after is) (damaged_written f i at)

    damaged_ids : (f : Fault) → (damaged app from_text c f).graph.ids ≡ c.graph.ids
    damaged_ids (SetTree at regs) = refl
    damaged_ids (SetWave at regs) = refl
    damaged_ids (SetLocal at text) = ap (λ g. g.ids) (read_written at (from_text text)).graph
    damaged_ids (LinkDown a b) = refl
    damaged_ids (LinkUp a b) = refl
    damaged_ids (NodeDown at) = refl
    damaged_ids (NodeUp at) = refl

    -- an entry leaves the identifiers as they are
    pub entered_ids : (entry : Entry) (after : Configuration L) → entered app from_text c entry ≡ Some after
        → after.graph.ids ≡ c.graph.ids
    entered_ids (Step e) after is = ap (λ g. g.ids) (entered_written (Step e) after (event_node e) refl is).graph
    entered_ids (Disturbed f) after is = sym (ap (λ (d : Configuration L). d.graph.ids) (injected_is f after is)) ∙ damaged_ids f
