-- What follows where an identifier is that of a node or of a neighbour, or of neither.
use Rattle.std.proofs.Common.{◌≡◌, ◌≢◌, ℕ, ◌==◌, Bool, true, false, cond, List, Option, Some, None, position, Contains}
use Rattle.std.proofs.Common.{refl, sym, ap, ◌∙◌}
use Rattle.topology.proofs.Membership.{Contains-has}
use Rattle.std.specs.List.{list_any}
use Rattle.std.specs.Option.{is_some}
use Rattle.std.proofs.lemmas.Bool.{ne_eqb}
use Rattle.topology.specs.Graph.{Graph, IsGraph, IsNode, are_linked, is_node, node_at}
use Rattle.tree_layer.specs.declared.regs.TreeRegs.{TreeRegs}
use Rattle.wave_layer.specs.declared.regs.WaveRegs.{WaveRegs}
use Rattle.wave_layer.specs.declared.regs.FatherSeen.TheVariants.{Is}
use Rattle.reset_model.specs.LocalSteps.{father_seen}
use Rattle.reset_model.proofs.Positions.{Contains-position, list_any-position, position-Contains}

-- what isn't among the ids isn't found there
pub no_node : (ids : List ℕ) (id : ℕ) → (Contains ids id → ⊥) → list_any (λ i. i == id) ids ≡ false
no_node ids id strange = list_any-position ids id ∙ at (position (λ i. i == id) ids) refl
  where
    at : (o : Option ℕ) → position (λ i. i == id) ids ≡ o → is_some (position (λ i. i == id) ids) ≡ false
    at None is = ap is_some is
    at (Some ix) is = absurd (strange (Contains-position ids id ix is))

-- and what is, is
pub a_node : (ids : List ℕ) (id : ℕ) → Contains ids id → list_any (λ i. i == id) ids ≡ true
a_node ids id there = list_any-position ids id ∙ at (position (λ i. i == id) ids) refl
  where
    at : (o : Option ℕ) → position (λ i. i == id) ids ≡ o → is_some (position (λ i. i == id) ids) ≡ true
    at None is = absurd (position-Contains ids id there is)
    at (Some ix) is = ap is_some is

-- the father is the neighbour that is named
pub father_seen-near : (g : Graph) (t : ℕ → TreeRegs) (w : ℕ → WaveRegs) (i up : ℕ) (regs : WaveRegs)
    → (t i).father ≡ up → up ≢ i → are_linked g i up ≡ true → w up ≡ regs → Is regs ≡ father_seen g t w i
father_seen-near g t w i up regs named other linked same = rw (named, ne_eqb up i other, linked, same) refl

-- a node that is found among all identifiers is up, and has this index
pub node_placed : (g : Graph) (id ix : ℕ) → node_at g id ≡ Some ix
    → IsNode g id × (position (λ i. i == id) g.ids ≡ Some ix)
node_placed g id ix is = at (is_node g id) refl is
  where
    at : (b : Bool) → is_node g id ≡ b → cond b (position (λ i. i == id) g.ids) None ≡ Some ix
        → IsNode g id × (position (λ i. i == id) g.ids ≡ Some ix)
    at true up is = (Contains-has g.nodes id up, is)
    at false down is = absurd (cc)

-- and one that isn't found is no node
pub no_node_placed : (g : Graph) → IsGraph g → (id : ℕ) → node_at g id ≡ None → IsNode g id → ⊥
no_node_placed g graph id is node =
    position-Contains g.ids id (graph.within id node)
    (sym (ap (λ b. cond b (position (λ i. i == id) g.ids) None) (a_node g.nodes id node)) ∙ is)
