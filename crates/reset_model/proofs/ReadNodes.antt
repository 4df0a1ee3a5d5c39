-- The nodes that a case of the application reads are neighbours of its node.
use Rattle.std.proofs.Common.{◌≡◌, ℕ, true, Option, Some, None, sym, subst, ◌∙◌, true≢false}
use Rattle.std.proofs.lemmas.Bool.{eqb-true}
use Rattle.app_interface.specs.Application.{Fits, is_read}
use Rattle.app_interface.specs.declared.reads.Reads.{Reads}
use Rattle.app_interface.specs.declared.reads.Reads.TheVariants.{Alone, Toward, One, All}
use Rattle.topology.specs.Graph.{Graph, IsGraph, IsNode, AreLinked}

-- what a case reads is linked to its node
pub read_linked : (g : Graph) (i : ℕ) (reads : Option Reads) (with : Option ℕ) (j : ℕ) → Fits g i reads with
    → is_read g i reads with j ≡ true → AreLinked g i j
read_linked g i None with j fits read = absurd (true≢false (sym read))
read_linked g i (Some Alone) with j fits read = absurd (true≢false (sym read))
read_linked g i (Some Toward) with j fits read = absurd (true≢false (sym read))
read_linked g i (Some One) None j fits read = absurd fits
read_linked g i (Some One) (Some k) j fits read = subst (AreLinked g i) (sym (eqb-true j k read)) fits
read_linked g i (Some All) with j fits read = read

pub read_node : (g : Graph) → IsGraph g → (i : ℕ) (reads : Option Reads) (with : Option ℕ) (j : ℕ) → Fits g i reads with
    → is_read g i reads with j ≡ true → IsNode g j
read_node g graph i reads with j fits read =
    graph.ends j i (graph.symmetric j i ∙ read_linked g i reads with j fits read)
