-- What is written at an index is written at the identifier that stands there.
use Rattle.std.proofs.Common.{◌≡◌, ℕ, ◌<◌, ◌==◌, Bool, true, false, List, length, position, slice_index, slice_index_or}
use Rattle.std.proofs.Common.{slice_set, Option, None, Some, Result, Ok, sym, ap, ◌∙◌}
use Rattle.std.specs.List.Sorted.{IsStrictlyIncreasing}
use Rattle.app_interface.specs.Application.{App}
use Rattle.topology.specs.Graph.{node_bound}
use Rattle.tree_layer.specs.declared.regs.TreeRegs.{TreeRegs}
use Rattle.wave_layer.specs.declared.regs.WaveRegs.{WaveRegs}
use Rattle.reset_model.specs.Actions.{acted_of}
use Rattle.reset_model.specs.Configuration.{Configuration, local_of, put_at, tree_of, wave_of, with_local, with_tree}
use Rattle.reset_model.specs.Configuration.{start_list, with_locals, with_wave}
use Rattle.reset_model.specs.LocalSteps.{event_fired}
use Rattle.reset_model.specs.Outcome.{act_outcome, acted, done, restarted, row_outcome}
use Rattle.reset_model.specs.Planned.{after_effect}
use Rattle.reset_model.specs.Steps.{event_node}
use Rattle.reset_model.specs.declared.event.Event.{Event}
use Rattle.reset_model.specs.declared.plan.Effect.TheVariants.{Wave}
use Rattle.reset_model.specs.declared.plan.Fired.TheVariants.{Tree}
use Rattle.reset_model.specs.declared.step.Reply.{Reply}
use Rattle.reset_model.specs.declared.step.Reply.TheVariants.{Applied}
use Rattle.reset_model.specs.declared.step.StepRefusal.{StepRefusal}
use Rattle.std.proofs.lemmas.List.{get_or-map}
use Rattle.std.proofs.lemmas.List.Quantifiers.{position-Some}
use Rattle.reset_model.proofs.Positions.{id_at-position, position-place, put_at-position}

-- the identifiers ascend, so one at an index stands nowhere before
pub put_at-index : {X : Type 0} (ids : List ℕ) (xs : List X) (index : ℕ) (y : X) → IsStrictlyIncreasing ids
    → length xs ≡ length ids → index < length ids → put_at ids xs (slice_index ids index) y ≡ slice_set xs index y
put_at-index ids xs index y up same low =
    put_at-position ids xs index (slice_index ids index) y same (position-place ids index up low)

module _ {L : Type 0} (c d : Configuration L) (id index : ℕ) (found : position (λ k. k == id) c.graph.ids ≡ Some index)
  where
    pub at_id : slice_index c.graph.ids index ≡ id
    at_id = id_at-position c.graph.ids index id found

    pub index_low : index < length c.graph.ids
    index_low = (position-Some (λ k. k == id) c.graph.ids index 0 found).0

    -- what is written at the index that was found is written at the identifier
    pub tree_written : (regs : TreeRegs) → d ≡ with_tree c (slice_index c.graph.ids index) regs
        → d ≡ with_tree c id regs
    tree_written regs is = is ∙ ap (λ k. with_tree c k regs) at_id

    pub wave_set : (regs : WaveRegs) → d ≡ with_wave c (slice_index c.graph.ids index) regs → d ≡ with_wave c id regs
    wave_set regs is = is ∙ ap (λ k. with_wave c k regs) at_id

    pub local_written : (local : L) → d ≡ with_local c (slice_index c.graph.ids index) local → d ≡ with_local c id local
    local_written local is = is ∙ ap (λ k. with_local c k local) at_id

    -- and the outcome of an action
    pub local_outcome : (app : App L) (case : ℕ) (with : Option ℕ) (new : L)
        → acted_of app c.graph (node_bound c.graph) (wave_of c) (local_of app c) id case with ≡ Ok new
        → d ≡ with_local c (slice_index c.graph.ids index) new → act_outcome app c id case with ≡ Ok (d, Applied)
    local_outcome app case with new does written =
        let told : Configuration L → Result (Configuration L × Reply) StepRefusal = λ k. Ok (k, Applied) in
        ap (acted c id) does ∙ ap told (sym (local_written new written))

-- or of a row of the tree table
pub tree_outcome : {L : Type 0} (app : App L) (c d : Configuration L) (e : Event) (index : ℕ) (regs : TreeRegs)
    → position (λ k. k == event_node e) c.graph.ids ≡ Some index
    → event_fired c.graph (node_bound c.graph) c.modulus (tree_of c) (wave_of c) e ≡ Ok (Tree regs)
    → d ≡ with_tree c (slice_index c.graph.ids index) regs → row_outcome app c e ≡ Ok (d, Applied)
tree_outcome {L} app c d e index regs found does written =
    let told : Configuration L → Result (Configuration L × Reply) StepRefusal = λ k. Ok (k, Applied) in
    ap (done app c (event_node e)) does ∙ ap told (sym (tree_written c d (event_node e) index found regs written))

-- ---- a row of the wave table

module _ {L : Type 0} (app : App L) (c : Configuration L) (index : ℕ) where
  abbrev at : ℕ
  at = slice_index c.graph.ids index

  -- the start state that is read at the index is that of the identifier there
  pub start_at : (starts : List L) (x : L) → starts ≡ start_list app c.graph → index < length c.graph.ids
      → x ≡ slice_index_or starts index x → x ≡ app.start c.graph at
  start_at starts x are low read =
      read ∙ ap (λ xs. slice_index_or xs index x) are ∙ get_or-map (app.start c.graph) c.graph.ids index 0 x low

  -- a node that restarts has its start state again
  pub restarted_wave : (d : Configuration L) (regs : WaveRegs) (b : Bool) (put : Option L) (start : L) → b ≡ true
      → start ≡ app.start c.graph at → put ≡ Some start → d ≡ after_effect c at (Wave regs put)
      → d ≡ with_wave (with_locals c (restarted app c at b)) at regs
  restarted_wave d regs b put start restarts is some written =
      written ∙ ap (λ p. after_effect c at (Wave regs p)) (some ∙ ap Some is)
      ∙ ap (λ k. with_wave (with_locals c (restarted app c at k)) at regs) (sym restarts)

  -- any other keeps its local state
  pub kept_wave : (d : Configuration L) (regs : WaveRegs) (b : Bool) (put : Option L) → b ≡ false → put ≡ None
      → d ≡ after_effect c at (Wave regs put) → d ≡ with_wave (with_locals c (restarted app c at b)) at regs
  kept_wave d regs b put stays none written =
      written ∙ ap (λ p. after_effect c at (Wave regs p)) none
      ∙ ap (λ k. with_wave (with_locals c (restarted app c at k)) at regs) (sym stays)
