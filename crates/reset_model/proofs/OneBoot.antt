-- A graph has one booted configuration with sessions modulo a number.
use Rattle.std.proofs.Common.{◌≡◌, ℕ, List, sym, ap, ap₂, ◌∙◌}
use Rattle.app_interface.specs.Application.{App}
use Rattle.topology.specs.Graph.{Graph}
use Rattle.tree_layer.specs.declared.regs.TreeRegs.{TreeRegs}
use Rattle.tree_layer.proofs.OneBoot.{one_boot as one_tree}
use Rattle.wave_layer.specs.declared.regs.WaveRegs.{WaveRegs}
use Rattle.reset_model.specs.Configuration.{Configuration}
use Rattle.reset_model.specs.Outcome.{IsBoot}

pub one_boot : {L : Type 0} (app : App L) (g : Graph) (m : ℕ) (c d : Configuration L) → IsBoot app g m c
    → IsBoot app g m d → c ≡ d
one_boot {L = L} app g m c d a b =
    let Parts : Type 0 = (Graph × ℕ) × (List TreeRegs × (List WaveRegs × List L)) in
    let whole : Parts → Configuration L =
    λ p. record { graph = p.0.0; modulus = p.0.1; trees = p.1.0; waves = p.1.1.0; locals = p.1.1.1 } in
    let limits : (c.graph, c.modulus) ≡ (d.graph, d.modulus) =
    ap₂ (λ x y. (x, y)) (a.graph ∙ sym b.graph) (a.modulus ∙ sym b.modulus) in
    let states : (c.waves, c.locals) ≡ (d.waves, d.locals) =
    ap₂ (λ x y. (x, y)) (a.waves ∙ sym b.waves) (a.locals ∙ sym b.locals) in
    let trees : c.trees ≡ d.trees = one_tree g c.trees d.trees a.trees b.trees in
    let parts : ((c.graph, c.modulus), (c.trees, (c.waves, c.locals))) ≡ ((d.graph, d.modulus), (d.trees, (d.waves, d.locals))) =
    ap₂ (λ x y. (x, y)) limits (ap₂ (λ x y. (x, y)) trees states) in
    ap whole parts
