-- Rows 1 to 4 of the tree table ask of the neighbours only whether one of them is the father.
use Rattle.std.proofs.Common.{◌≡◌, ℕ, nat_le, nat_lt, subst, Bool, true, false, not, cond, ◌&&◌, ◌||◌, ◌==◌, List, []}
use Rattle.std.proofs.Common.{◌∷◌, map, Option, Some, None, Err, refl, sym, ap, ◌∙◌}
use Rattle.std.specs.Option.{option_map_or}
use Rattle.std.proofs.lemmas.Bool.{eq-eqb}
use Rattle.action_tables.specs.Table.{enabled_of}
use Rattle.app_interface.specs.Application.{App}
use Rattle.topology.specs.Graph.{Graph, IsGraph, are_linked, neighbours_of, node_bound}
use Rattle.tree_layer.specs.declared.regs.TreeRegs.{TreeRegs}
use Rattle.tree_layer.specs.TreeRows.{Claims, claimed}
use Rattle.tree_layer.specs.TreeTable.{LocalView, father_passes, tree_table}
use Rattle.reset_model.proofs.TreePlans.{IsTreeFired, claim_is, regs_of-linked}
use Rattle.reset_model.specs.LocalSteps.{or_next}
use Rattle.reset_model.specs.declared.step.StepRefusal.TheVariants.{NotEnabled}
use Rattle.reset_model.specs.Configuration.{Configuration, tree_of}
use Rattle.reset_model.specs.View.{Neighbour, near_of}
use Rattle.link_predicates.specs.Faults.{first_enabled, own_row}
use Rattle.reset_model.proofs.EnabledRows.{row_holds}
use Rattle.link_predicates.proofs.EnabledRows.{Tells, fired_if, first_by, first_of, no_wave}

abbrev pub seeing : ℕ → ℕ → TreeRegs → List (ℕ × TreeRegs) → LocalView
seeing id bound own near = record { id = id; bound = bound; own = own; near = near }

module _ (id bound : ℕ) (own : TreeRegs) (near near' asked asked' : List (ℕ × TreeRegs)) where
  abbrev pub rows : List ℕ
  rows = enabled_of (tree_table (seeing id bound own near) asked)

  abbrev pub rows' : List ℕ
  rows' = enabled_of (tree_table (seeing id bound own near') asked')

  pub same_own_rows : father_passes (λ _. true) (seeing id bound own near)
      ≡ father_passes (λ _. true) (seeing id bound own near')
      → first_enabled (1 ∷ 2 ∷ 3 ∷ 4 ∷ []) rows ≡ first_enabled (1 ∷ 2 ∷ 3 ∷ 4 ∷ []) rows'
  same_own_rows seen =
      let table = tree_table (seeing id bound own near) asked in
      let table' = tree_table (seeing id bound own near') asked' in
      first_by table 1 2 3 4
      ∙ ap (λ b. first_of 1 2 3 4 (row_holds 1 table) (row_holds 2 table) ((not (own.father == id) && not b) || false)
      (row_holds 4 table)) seen
      ∙ sym (first_by table' 1 2 3 4)

-- the first of them, where these neighbours are seen
abbrev pub first_own : ℕ → ℕ → TreeRegs → List (ℕ × TreeRegs) → Option ℕ
first_own id bound own near =
    first_enabled (1 ∷ 2 ∷ 3 ∷ 4 ∷ []) (enabled_of (tree_table (seeing id bound own near) near))

-- what the first of rows 1 to 4 tells is what they answer, one after the other
first_tells : (E : Type 0) (regs : TreeRegs) (p q r s : Bool)
    → IsTreeFired (or_next (fired_if p regs) (or_next (fired_if q regs)
    (or_next (fired_if r regs) (or_next (fired_if s regs) (Err NotEnabled))))) E regs
    → Tells E (first_of 1 2 3 4 (p || false) (q || false) (r || false) (s || false))
first_tells E regs true q r s is = is.0
first_tells E regs false true r s is = is.0
first_tells E regs false false true s is = is.0
first_tells E regs false false false true is = is.0
first_tells E regs false false false false is = is

-- what a node sees of its father suffices
module _ (g : Graph) (t : ℕ → TreeRegs) (graph : IsGraph g) (i : ℕ) where
  abbrev pub all_near : List (ℕ × TreeRegs)
  all_near = map (λ j. (j, t j)) (neighbours_of g i)

  abbrev passes : Bool → Bool
  passes linked = option_map_or (λ _. true) (cond linked (Some (t (t i).father)) None) false

  whole : (b : Bool) → are_linked g i (t i).father ≡ b
      → father_passes (λ _. true) (seeing i (node_bound g) (t i) all_near) ≡ passes b
  whole b linked =
      ap (λ o. option_map_or (λ (_ : TreeRegs). true) o false)
      (regs_of-linked g (node_bound g) 0 t no_wave graph i (t i).father) ∙ ap passes linked

  father_seen : (up : TreeRegs) → are_linked g i (t i).father ≡ true
      → first_own i (node_bound g) (t i) (((t i).father, up) ∷ []) ≡ first_own i (node_bound g) (t i) all_near
  father_seen up linked =
      let near = ((t i).father, up) ∷ [] in
      same_own_rows i (node_bound g) (t i) near all_near near all_near
      (ap (λ b. option_map_or (λ (_ : TreeRegs). true) (cond b (Some up) None) false) (eq-eqb _ _ refl)
      ∙ sym (whole true linked))

  no_father_seen : are_linked g i (t i).father ≡ false
      → first_own i (node_bound g) (t i) [] ≡ first_own i (node_bound g) (t i) all_near
  no_father_seen stray = same_own_rows i (node_bound g) (t i) [] all_near [] all_near (sym (whole false stray))

  -- rows 1 to 4 tell whether what the node knows of its root and father is wrong
  pub own_tells : Tells (Claims g (node_bound g) t i) (first_own i (node_bound g) (t i) all_near)
  own_tells =
      let v = seeing i (node_bound g) (t i) all_near in
      let low = nat_lt (t i).root i in
      let self = (t i).father == i && (not ((t i).root == i) || not ((t i).dist == 0)) in
      let stray = not ((t i).father == i) && not (father_passes (λ _. true) v) in
      subst (Tells (Claims g (node_bound g) t i)) (sym (first_by (tree_table v all_near) 1 2 3 4))
      (first_tells (Claims g (node_bound g) t i) (claimed i) low self stray (nat_le (node_bound g) (t i).dist)
      (claim_is g (node_bound g) 0 t no_wave graph i))

-- what is asked at a node with what it has there, by whether its father is a neighbour
module _ {L : Type 0} (app : App L) (c : Configuration L) (graph : IsGraph c.graph) (i K : ℕ) (own : Neighbour L)
    (is : own ≡ near_of app c i) (bound : K ≡ node_bound c.graph) where
  asked_alike : (near : TreeRegs → List (ℕ × TreeRegs))
      → first_own own.id K own.tree (near own.tree) ≡ first_own i (node_bound c.graph) (tree_of c i) (near (tree_of c i))
  asked_alike near =
      ap (λ k. first_own own.id k own.tree (near own.tree)) bound
      ∙ ap (λ (n : Neighbour L). first_own n.id (node_bound c.graph) n.tree (near n.tree)) is

  linked_alike : are_linked c.graph i own.tree.father ≡ are_linked c.graph i (tree_of c i).father
  linked_alike = ap (λ (n : Neighbour L). are_linked c.graph i n.tree.father) is

  pub father_row : (up : TreeRegs) → are_linked c.graph i own.tree.father ≡ true
      → first_own own.id K own.tree ((own.tree.father, up) ∷ []) ≡ own_row c i
  father_row up linked =
      asked_alike (λ regs. (regs.father, up) ∷ [])
      ∙ father_seen c.graph (tree_of c) graph i up (sym linked_alike ∙ linked)

  pub stray_row : are_linked c.graph i own.tree.father ≡ false → first_own own.id K own.tree [] ≡ own_row c i
  stray_row stray =
      asked_alike (λ regs. []) ∙ no_father_seen c.graph (tree_of c) graph i (sym linked_alike ∙ stray)
