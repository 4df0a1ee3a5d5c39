-- What is planned on a node's view is a step of the whole configuration, or its first refusal.
use Rattle.std.proofs.Common.{◌≡◌, ℕ, Bool, true, false, cond, Option, Some, None, Result, Ok, Err, MatchResult, refl}
use Rattle.std.proofs.Common.{sym, ap, subst, ◌∙◌, true≢false}
use Rattle.topology.specs.Graph.{Graph, IsGraph, IsNode, AreLinked, has}
use Rattle.topology.proofs.Membership.{has-Contains, Contains-has}
use Rattle.tree_layer.specs.declared.regs.TreeRegs.{TreeRegs}
use Rattle.wave_layer.specs.declared.regs.WaveRegs.{WaveRegs}
use Rattle.reset_model.specs.declared.event.Event.{Event}
use Rattle.reset_model.specs.declared.event.Event.TheVariants.{Claim, Follow, Adopt, Request, Relay, Open, Join, Finish}
use Rattle.reset_model.specs.declared.event.Event.TheVariants.{Mend, Act}
use Rattle.reset_model.specs.declared.plan.Fired.{Fired}
use Rattle.reset_model.specs.declared.plan.Fired.TheVariants.{Tree, Wave}
use Rattle.reset_model.specs.declared.step.Reply.TheVariants.{Applied, Complete}
use Rattle.reset_model.specs.declared.step.StepRefusal.{StepRefusal}
use Rattle.reset_model.specs.declared.step.StepRefusal.TheVariants.{StrangeNode, StrangeNeighbour, NoSuchCase}
use Rattle.reset_model.specs.declared.step.StepRefusal.TheVariants.{WantsNeighbour, TakesNoNeighbour, Disagrees}
use Rattle.reset_model.specs.declared.step.StepRefusal.TheVariants.{NotEnabled, NoMemory}
use Rattle.reset_model.specs.Steps.{strange_node, strange_neighbour, not_enabled, event_node}
use Rattle.reset_model.specs.Steps.{named_node, IsEnabled, IsNamed, RowRefused, reply_of, tree_effect}
use Rattle.reset_model.specs.Steps.{wave_effect}
use Rattle.reset_model.specs.LocalSteps.{is_neighbour, rows_fired, event_fired}
use Rattle.reset_model.specs.Outcome.{tree_left, wave_left, fired_reply, fired_restarts}
use Rattle.reset_model.proofs.Planned.{event_fired-strange_node, event_fired-strange_neighbour, event_fired-named}
use Rattle.reset_model.proofs.WaveRows.{IsWaveFired}
use Rattle.reset_model.proofs.WavePlans.{completes_of, restarts_of, request_is, relay_is, open_is, join_is, finish_is}
use Rattle.reset_model.proofs.WavePlans.{mend_is}
use Rattle.reset_model.proofs.TreePlans.{IsTreeFired, claim_is, follow_is, adopt_is}

module _ (g : Graph) (K m : ℕ) (t : ℕ → TreeRegs) (w : ℕ → WaveRegs) (graph : IsGraph g) where
  -- what an effect leaves is what the event leaves
  pub record IsFired (e : Event) (does : Fired) : Type 0 where
    pub tree : tree_left (t (event_node e)) does ≡ tree_effect K t e
    pub wave : wave_left (w (event_node e)) does ≡ wave_effect m t w e
    pub reply : fired_reply does ≡ reply_of t w e
    pub restarts : fired_restarts does ≡ restarts_of e

  -- what an event's rows do, of an event that names nodes of the graph
  abbrev FiresEvent : Event → Result Fired StepRefusal → Type 0
  FiresEvent e (Ok does) = IsEnabled g K m t w e × IsFired e does
  FiresEvent e (Err StrangeNode) = ⊥
  FiresEvent e (Err StrangeNeighbour) = ⊥
  FiresEvent e (Err NoSuchCase) = ⊥
  FiresEvent e (Err WantsNeighbour) = ⊥
  FiresEvent e (Err TakesNoNeighbour) = ⊥
  FiresEvent e (Err (Disagrees j)) = ⊥
  FiresEvent e (Err NotEnabled) = IsEnabled g K m t w e → ⊥
  FiresEvent e (Err NoMemory) = ⊥

  -- a wave event leaves the tree registers, and its reply says whether it completes a reset
  by_wave : (e : Event) → tree_effect K t e ≡ t (event_node e)
      → reply_of t w e ≡ cond (completes_of t e) (Complete (wave_effect m t w e).session) Applied
      → (r : Result Fired StepRefusal)
      → IsWaveFired r (IsEnabled g K m t w e) (wave_effect m t w e) (completes_of t e) (restarts_of e)
      → FiresEvent e r
  by_wave e stays reply (Ok (Tree regs)) h = absurd h
  by_wave e stays reply (Ok (Wave move)) h = (
    h.0,
    record {
      tree = sym stays;
      wave = h.1;
      reply = ap (λ b. cond b (Complete move.regs.session) Applied) h.2
          ∙ ap (λ (regs : WaveRegs). cond (completes_of t e) (Complete regs.session) Applied) h.1 ∙ sym reply;
      restarts = h.3;
    },
  )
  by_wave e stays reply (Err StrangeNode) h = h
  by_wave e stays reply (Err StrangeNeighbour) h = h
  by_wave e stays reply (Err NoSuchCase) h = h
  by_wave e stays reply (Err WantsNeighbour) h = h
  by_wave e stays reply (Err TakesNoNeighbour) h = h
  by_wave e stays reply (Err (Disagrees j)) h = h
  by_wave e stays reply (Err NotEnabled) h = h
  by_wave e stays reply (Err NoMemory) h = h

  -- a tree event leaves the wave registers
  by_tree : (e : Event) → wave_effect m t w e ≡ w (event_node e) → reply_of t w e ≡ Applied → restarts_of e ≡ false
      → (r : Result Fired StepRefusal) → IsTreeFired r (IsEnabled g K m t w e) (tree_effect K t e) → FiresEvent e r
  by_tree e stays reply kept (Ok (Tree regs)) h =
      (h.0, record { tree = h.1; wave = sym stays; reply = sym reply; restarts = sym kept })
  by_tree e stays reply kept (Ok (Wave move)) h = absurd h
  by_tree e stays reply kept (Err StrangeNode) h = h
  by_tree e stays reply kept (Err StrangeNeighbour) h = h
  by_tree e stays reply kept (Err NoSuchCase) h = h
  by_tree e stays reply kept (Err WantsNeighbour) h = h
  by_tree e stays reply kept (Err TakesNoNeighbour) h = h
  by_tree e stays reply kept (Err (Disagrees j)) h = h
  by_tree e stays reply kept (Err NotEnabled) h = h
  by_tree e stays reply kept (Err NoMemory) h = h

  event_fires : (e : Event) → IsNamed g e → FiresEvent e (rows_fired g K m t w e)
  event_fires (Claim i) named = by_tree (Claim i) refl refl refl _ (claim_is g K m t w graph i)
  event_fires (Follow i) named = by_tree (Follow i) refl refl refl _ (follow_is g K m t w graph i)
  event_fires (Adopt i j) named =
      by_tree (Adopt i j) refl refl refl _ (adopt_is g K m t w graph i j (named.neighbour j refl))
  event_fires (Request i) named = by_wave (Request i) refl refl _ (request_is g K m t w graph i)
  event_fires (Relay i c) named = by_wave (Relay i c) refl refl _ (relay_is g K m t w graph i c _ refl)
  event_fires (Open i) named = by_wave (Open i) refl refl _ (open_is g K m t w graph i)
  event_fires (Join i) named = by_wave (Join i) refl refl _ (join_is g K m t w graph i)
  event_fires (Finish i) named = by_wave (Finish i) refl refl _ (finish_is g K m t w graph i)
  event_fires (Mend i) named = by_wave (Mend i) refl refl _ (mend_is g K m t w graph i)
  event_fires (Act i case with) named = λ enabled. enabled

  -- what a plan does is a step
  pub record IsPlannedStep (e : Event) (does : Fired) : Type 0 where
    pub node : IsNode g (event_node e)
    pub enabled : IsEnabled g K m t w e
    pub leaves : IsFired e does

  step_of : (e : Event) → IsNamed g e → (r : Result Fired StepRefusal) → FiresEvent e r
      → MatchResult r (IsPlannedStep e) (RowRefused g K m t w e)
  step_of e named (Ok does) h = record { node = named.node; enabled = h.0; leaves = h.1 }
  step_of e named (Err StrangeNode) h = absurd h
  step_of e named (Err StrangeNeighbour) h = absurd h
  step_of e named (Err NoSuchCase) h = absurd h
  step_of e named (Err WantsNeighbour) h = absurd h
  step_of e named (Err TakesNoNeighbour) h = absurd h
  step_of e named (Err (Disagrees j)) h = absurd h
  step_of e named (Err NotEnabled) h = not_enabled named h
  step_of e named (Err NoMemory) h = absurd h

  stranger : (i : ℕ) (o : Option ℕ) → is_neighbour g i o ≡ false → (j : ℕ) × (o ≡ Some j) × (AreLinked g i j → ⊥)
  stranger i None is = absurd (true≢false is)
  stranger i (Some j) is = (j, refl, λ linked. true≢false (sym linked ∙ is))

  neighbour : (i : ℕ) (o : Option ℕ) → is_neighbour g i o ≡ true → (j : ℕ) → o ≡ Some j → AreLinked g i j
  neighbour i o is j named = let P : Option ℕ → Type 0 = λ o. is_neighbour g i o ≡ true in subst P named is

  pub planned_steps : (e : Event) (r : Result Fired StepRefusal) → event_fired g K m t w e ≡ r
      → MatchResult r (IsPlannedStep e) (RowRefused g K m t w e)
  planned_steps e r is = at (has g.nodes (event_node e)) (is_neighbour g (event_node e) (named_node e)) refl refl
    where
      Steps : Result Fired StepRefusal → Type 0
      Steps r = MatchResult r (IsPlannedStep e) (RowRefused g K m t w e)

      at : (b d : Bool) → has g.nodes (event_node e) ≡ b → is_neighbour g (event_node e) (named_node e) ≡ d
          → MatchResult r (IsPlannedStep e) (RowRefused g K m t w e)
      at false d node named =
          subst Steps (sym (event_fired-strange_node g K m t w e node) ∙ is)
          (strange_node (λ there. true≢false (sym (has-Contains g.nodes (event_node e) there) ∙ node)))
      at true false node named =
          let other = stranger (event_node e) (named_node e) named in
          subst Steps (sym (event_fired-strange_neighbour g K m t w e node named) ∙ is)
          (strange_neighbour other.0 (Contains-has g.nodes (event_node e) node) other.1 other.2)
      at true true node named =
          subst Steps (sym (event_fired-named g K m t w e node named) ∙ is)
          (let named_nodes : IsNamed g e = record {
            node = Contains-has g.nodes (event_node e) node;
            neighbour = neighbour (event_node e) (named_node e) named;
          } in
          step_of e named_nodes (rows_fired g K m t w e) (event_fires e named_nodes))
