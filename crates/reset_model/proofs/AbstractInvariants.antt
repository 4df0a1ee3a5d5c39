-- What holds of the abstract state because each abstract step keeps it.
use Rattle.std.proofs.Common.{ℕ, List, [], ◌∷◌}
use Rattle.std.proofs.Common.{◌⊎◌, inl, inr, ⊎_elim}
use Rattle.app_interface.specs.Application.{App}
use Rattle.app_interface.specs.Invariant.{Keeps, StartsByComponent}
use Rattle.topology.specs.Components.{component}
use Rattle.topology.specs.Graph.{Graph, IsGraph, IsNode, IsReached}
use Rattle.reset_model.specs.Refinement.{AbstractStep, Reset, Do, IsAbstractRun}
use Rattle.reset_model.proofs.ComponentSteps.{acts_apart, acts_there, reached_or_not, reset_apart, reset_there}
use Rattle.reset_model.proofs.ComponentSteps.{same_there}

-- ---- invariants of the abstract machine

-- some step resets the nodes of i's component
abbrev pub ResetsIn : Graph → ℕ → List AbstractStep → Type 0
ResetsIn g i [] = ⊥
ResetsIn g i (Reset o ∷ ss) = IsReached g i o ⊎ ResetsIn g i ss
ResetsIn g i (Do k case with ∷ ss) = ResetsIn g i ss

module _ {L : Type 0} (app : App L) (g : Graph) (graph : IsGraph g) (K i : ℕ) (node : IsNode g i)
    (starts : StartsByComponent app) (Inv : (ℕ → L) → Type 0) (keeps : Keeps app (component g i) K Inv) where
  pub abstract_kept : (ss : List AbstractStep) (v v' : ℕ → L) → IsAbstractRun app g K ss v v' → Inv v → Inv v'
  abstract_kept [] v v' run inv = keeps.same v v' (same_there g graph i node v v' run) inv
  abstract_kept (Reset o ∷ ss) v v' run inv =
      abstract_kept ss run.0 v' run.2
      (⊎_elim
      (λ inside. keeps.same (app.start (component g i)) run.0
      (reset_there g graph i node app starts o inside v run.0 run.1) keeps.starts)
      (λ apart. keeps.same v run.0 (reset_apart g graph i node app o apart v run.0 run.1) inv)
      (reached_or_not g graph i node o))
  abstract_kept (Do k case with ∷ ss) v v' run inv =
      abstract_kept ss run.0 v' run.2
      (⊎_elim
      (λ inside. keeps.acts k case with v run.0 (acts_there g graph i node app K k case with v run.0 inside run.1) inv)
      (λ apart. keeps.same v run.0 (acts_apart g graph i node app K k case with v run.0 apart run.1) inv)
      (reached_or_not g graph i node k))

  pub abstract_reset : (ss : List AbstractStep) (v v' : ℕ → L) → ResetsIn g i ss → IsAbstractRun app g K ss v v' → Inv v'
  abstract_reset [] v v' reset run = absurd reset
  abstract_reset (Reset o ∷ ss) v v' (inl inside) run =
      abstract_kept ss run.0 v' run.2
      (keeps.same (app.start (component g i)) run.0 (reset_there g graph i node app starts o inside v run.0 run.1)
      keeps.starts)
  abstract_reset (Reset o ∷ ss) v v' (inr later) run = abstract_reset ss run.0 v' later run.2
  abstract_reset (Do k case with ∷ ss) v v' reset run = abstract_reset ss run.0 v' reset run.2
