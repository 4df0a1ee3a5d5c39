-- A configuration under another graph of the same identifiers.
use Rattle.std.specs.Prelude.{ℕ, Bool, ◌&&◌, not, if◌then◌else◌, List, [], ◌∷◌}
use Rattle.app_interface.specs.Application.{App}
use Rattle.topology.specs.Graph.{Graph, is_node}
use Rattle.tree_layer.specs.TreeRows.{claimed}
use Rattle.wave_layer.specs.declared.regs.Phase.TheVariants.{Normal}
use Rattle.reset_model.specs.Configuration.{Configuration, configuration}

-- the identifier is up in the graph g, and was down before
abbrev pub comes_up : Graph → Graph → ℕ → Bool
comes_up before g i = is_node g i && not (is_node before i)

-- the values of these ids, of which those that come up have new ones
abbrev pub renewed : {X : Type 0} → (ℕ → Bool) → (ℕ → X) → List ℕ → List X → List X
renewed comes new [] xs = []
renewed comes new (k ∷ ks) [] = []
renewed comes new (k ∷ ks) (x ∷ xs) = (if comes k then new k else x) ∷ renewed comes new ks xs

-- the configuration with this graph: a node that comes up is its own root, normal in session 0, and has its start
-- state; the others keep what they have
abbrev pub with_topology : {L : Type 0} → App L → Configuration L → Graph → Configuration L
with_topology app c g =
    let comes = comes_up c.graph g in
    configuration g c.modulus (renewed comes claimed g.ids c.trees)
    (renewed comes (λ _. record { phase = Normal; session = 0 }) g.ids c.waves) (renewed comes (app.start g) g.ids c.locals)
