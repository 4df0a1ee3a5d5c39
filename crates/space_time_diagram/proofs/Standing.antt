-- What is shown of a node, by whether it is up.
use Rattle.std.proofs.Common.{◌≡◌, ℕ, Bool, true, false, cond, Option, Some, None, IfSome, IfNone, refl, sym, ap, ◌∙◌}
use Rattle.topology.specs.Graph.{Graph, IsNode, is_node}
use Rattle.topology.proofs.Membership.{Contains-has, has-Contains}
use Rattle.wave_layer.specs.declared.regs.WaveRegs.{WaveRegs}
use Rattle.reset_model.specs.Configuration.{Configuration, wave_of}
use Rattle.space_time_diagram.specs.Bands.{shown_of}

down_there : (g : Graph) (i : ℕ) → (IsNode g i → ⊥) → is_node g i ≡ false
down_there g i down = by (is_node g i) refl
  where
    by : (b : Bool) → is_node g i ≡ b → is_node g i ≡ false
    by true there = absurd (down (Contains-has g.nodes i there))
    by false out = out

-- the registers of a node that is up, and none of one that isn't
pub shown_where_up : {L : Type 0} (c : Configuration L) (i : ℕ) (o : Option WaveRegs)
    → IfSome o (λ regs. IsNode c.graph i × (regs ≡ wave_of c i)) → IfNone o (IsNode c.graph i → ⊥)
    → o ≡ shown_of c i
shown_where_up c i (Some regs) found none =
    ap (λ (r : WaveRegs). Some r) found.1
    ∙ ap (λ b. cond b (Some (wave_of c i)) None) (sym (has-Contains c.graph.nodes i found.0))
shown_where_up c i None found none = ap (λ b. cond b (Some (wave_of c i)) None) (sym (down_there c.graph i none))
