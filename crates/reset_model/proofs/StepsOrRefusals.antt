-- No event is both a step and refused.
use Rattle.std.proofs.Common.{◌≡◌, ℕ, Option, Some, None, sym, ap, subst, ◌∙◌, true≢false}
use Rattle.app_interface.specs.Application.{App, Fits}
use Rattle.app_interface.specs.declared.reads.Reads.{Reads}
use Rattle.app_interface.specs.declared.reads.Reads.TheVariants.{Alone, Toward, One, All}
use Rattle.topology.specs.Graph.{Graph, IsGraph, AreLinked, node_bound}
use Rattle.tree_layer.specs.declared.regs.TreeRegs.{TreeRegs}
use Rattle.tree_layer.specs.TreeRows.{adopt_root, adopt_short}
use Rattle.wave_layer.specs.declared.regs.WaveRegs.{WaveRegs}
use Rattle.reset_model.specs.declared.event.Event.{Event}
use Rattle.reset_model.specs.declared.event.Event.TheVariants.{Claim, Follow, Adopt, Request, Relay, Open, Join, Finish}
use Rattle.reset_model.specs.declared.event.Event.TheVariants.{Mend, Act}
use Rattle.reset_model.specs.declared.step.StepRefusal.{StepRefusal}
use Rattle.reset_model.specs.Actions as act
use Rattle.reset_model.specs.Actions.{ActStep, ActRefused, NamesOne}
use Rattle.reset_model.specs.Configuration.{Configuration, tree_of, wave_of, local_of}
use Rattle.reset_model.specs.MachineSteps.{IsStep, row_step, act_step, IsRefused, row_refused, act_refused}
use Rattle.reset_model.specs.Steps as row
use Rattle.reset_model.specs.Steps.{IsEnabled, RegsStep, RowRefused, event_node, is_act, named_node}

-- ---- rows

-- the node that an enabled event names is a neighbour
named_linked : (g : Graph) (K m : ℕ) (t : ℕ → TreeRegs) (w : ℕ → WaveRegs) (e : Event) (j : ℕ) → IsGraph g
    → IsEnabled g K m t w e → named_node e ≡ Some j → AreLinked g (event_node e) j
named_linked g K m t w (Claim i) j graph enabled named = absurd (cc)
named_linked g K m t w (Follow i) j graph enabled named = absurd (cc)
named_linked g K m t w (Adopt i k) j graph (adopt_root linked near above) named = let same : k ≡ j =
    cc in subst (AreLinked g i) same linked
named_linked g K m t w (Adopt i k) j graph (adopt_short linked near alike shorter) named = let same : k ≡ j =
    cc in subst (AreLinked g i) same linked
named_linked g K m t w (Request i) j graph enabled named = absurd (cc)
named_linked g K m t w (Relay i k) j graph enabled named = let same : k ≡ j =
    cc in subst (AreLinked g i) same (graph.symmetric i k ∙ enabled.1.linked)
named_linked g K m t w (Open i) j graph enabled named = absurd (cc)
named_linked g K m t w (Join i) j graph enabled named = absurd (cc)
named_linked g K m t w (Finish i) j graph enabled named = absurd (cc)
named_linked g K m t w (Mend i) j graph enabled named = absurd (cc)
named_linked g K m t w (Act i case with) j graph enabled named = absurd enabled

rows_apart : (g : Graph) (K m : ℕ) (t t' : ℕ → TreeRegs) (w w' : ℕ → WaveRegs) (e : Event) (f : StepRefusal) → IsGraph g
    → RegsStep g K m t w e t' w' → RowRefused g K m t w e f → ⊥
rows_apart g K m t t' w w' e f graph step (row.strange_node none) = none step.node
rows_apart g K m t t' w w' e f graph step (row.strange_neighbour j node named stranger) =
    stranger (named_linked g K m t w e j graph step.enabled named)
rows_apart g K m t t' w w' e f graph step (row.not_enabled named none) = none step.enabled

-- ---- actions

module _ (g : Graph) (i : ℕ) where
  fits_linked : (r : Option Reads) (j : ℕ) → Fits g i r (Some j) → AreLinked g i j
  fits_linked None j fits = absurd fits
  fits_linked (Some Alone) j fits = absurd fits
  fits_linked (Some Toward) j fits = fits
  fits_linked (Some One) j fits = fits
  fits_linked (Some All) j fits = absurd fits

  fits_named : (r : Reads) → NamesOne r → Fits g i (Some r) None → ⊥
  fits_named Alone names fits = names
  fits_named Toward names fits = fits
  fits_named One names fits = fits
  fits_named All names fits = names

  fits_alone : (r : Reads) (j : ℕ) → (NamesOne r → ⊥) → Fits g i (Some r) (Some j) → ⊥
  fits_alone Alone j none fits = fits
  fits_alone Toward j none fits = none tt
  fits_alone One j none fits = none tt
  fits_alone All j none fits = fits

module _ {L : Type 0} (app : App L) (g : Graph) (K : ℕ) (w : ℕ → WaveRegs) (l l' : ℕ → L) where
  acts_apart : (i case : ℕ) (with : Option ℕ) (f : StepRefusal) → ActStep app g K w i case with l l'
      → ActRefused app g K w l i case with f → ⊥
  acts_apart i case with f step (act.strange_node none) = none step.action.node
  acts_apart i case with f step (act.strange_neighbour j node named stranger) =
      stranger (fits_linked g i (app.reads case) j (subst (Fits g i (app.reads case)) named step.action.fits))
  acts_apart i case with f step (act.no_such_case named none) = subst (λ r. Fits g i r with) none step.action.fits
  acts_apart i case with f step (act.wants_neighbour r named reads names none) =
      fits_named g i r names (subst (Fits g i (Some r)) none (subst (λ o. Fits g i o with) reads step.action.fits))
  acts_apart i case with f step (act.takes_no_neighbour r j named reads alone one) =
      fits_alone g i r j alone (subst (Fits g i (Some r)) one (subst (λ o. Fits g i o with) reads step.action.fits))
  acts_apart i case with f step (act.disagrees j node fits first) = first.apart (step.agree j first.node first.read)
  acts_apart i case with f step (act.not_enabled node fits agree none) = let both : Some step.action.new ≡ None =
      sym step.action.next ∙ none in absurd (cc)

  -- the event is an action that takes the local states to these
  abbrev Acts : Event → Type 0
  Acts (Act i case with) = ActStep app g K w i case with l l'
  Acts e = ⊥

-- ---- events

pub step_or_refusal : {L : Type 0} (app : App L) (c c' : Configuration L) (e : Event) (f : StepRefusal)
    → IsGraph c.graph → IsStep app c e c' → IsRefused app c e f → ⊥
step_or_refusal app c c' e f graph (row_step step) (row_refused is_row refused) =
    rows_apart c.graph (node_bound c.graph) c.modulus (tree_of c) (tree_of c') (wave_of c) (wave_of c') e f graph step.regs
    refused
step_or_refusal app c c' e f graph (row_step step) (act_refused i case with is refused) =
    subst (IsEnabled c.graph (node_bound c.graph) c.modulus (tree_of c) (wave_of c)) is step.regs.enabled
step_or_refusal app c c' e f graph (act_step i case with is step) (row_refused is_row refused) =
    absurd (true≢false (sym (ap is_act is) ∙ is_row))
step_or_refusal app c c' e f graph (act_step i case with is step) (act_refused i' case' with' is' refused) =
    acts_apart app c.graph (node_bound c.graph) (wave_of c) (local_of app c) (local_of app c') i' case' with' f
    (subst (Acts app c.graph (node_bound c.graph) (wave_of c) (local_of app c) (local_of app c')) (sym is ∙ is')
    step.locals) refused
