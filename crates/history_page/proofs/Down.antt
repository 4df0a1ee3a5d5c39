-- What is told of a node that is down.
use Rattle.std.proofs.Common.{◌≡◌, ℕ, Bool, true, false, if◌then◌else◌, List, [], ◌++◌, refl, sym, ap, ◌∙◌, append-nil}
use Rattle.topology.specs.Graph.{Graph, IsNode, is_node}
use Rattle.app_interface.specs.Application.{App}
use Rattle.reset_model.specs.Configuration.{Configuration}
use Rattle.link_predicates.specs.Faults.{node_faults}
use Rattle.history_page.specs.Failing.{failing}
use Rattle.topology.proofs.Membership.{Contains-has, has-Contains}

-- a node is up
pub up_there : (g : Graph) (i : ℕ) → IsNode g i → is_node g i ≡ true
up_there g i up = has-Contains g.nodes i up

pub down_there : (g : Graph) (i : ℕ) → (IsNode g i → ⊥) → is_node g i ≡ false
down_there g i down = by (is_node g i) refl
  where
    by : (b : Bool) → is_node g i ≡ b → is_node g i ≡ false
    by true there = absurd (down (Contains-has g.nodes i there))
    by false out = out

-- nothing is added where a node is down
pub nothing_down : {X : Type 0} (g : Graph) (i : ℕ) (line text : List X) → (IsNode g i → ⊥)
    → line ≡ line ++ (if is_node g i then text else [])
nothing_down g i line text down =
    sym (append-nil line) ∙ ap (λ (b : Bool). line ++ (if b then text else [])) (sym (down_there g i down))

pub failing_down : {L : Type 0} (app : App L) (c : Configuration L) (i : ℕ) → (IsNode c.graph i → ⊥)
    → failing app c i ≡ []
unfolding failing
failing_down app c i down =
    ap (λ (b : Bool). if b then node_faults app c i else []) (down_there c.graph i down)
