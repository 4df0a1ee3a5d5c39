-- The rows of the tree table on what one node sees.
use Rattle.std.specs.Prelude.{◌≢◌, ℕ, ◌+◌, ◌<◌, Bool, true, false, not, ◌&&◌, ◌||◌, ◌==◌, List, [], ◌∷◌}
use Rattle.std.specs.Prelude.{codes, Option, Result, Ok, nat_lt, nat_le}
use Rattle.std.specs.List.{list_any}
use Rattle.std.specs.List.Sorted.{IsStrictlyIncreasing}
use Rattle.std.specs.Option.{option_map_or}
use Rattle.action_tables.specs.Nodes.{ids_of, regs_of}
use Rattle.action_tables.specs.Table.{Row, fired_naming}
use Rattle.tree_layer.specs.declared.regs.TreeRegs.{TreeRegs}
use Rattle.tree_layer.specs.declared.regs.TreeRefusal.{TreeRefusal}
use Rattle.tree_layer.specs.declared.regs.TreeRefusal.TheVariants.{NoSuchCase, StrangeNeighbour, NotEnabled}
use Rattle.tree_layer.specs.TreeRows.{claimed, followed, adopted}

-- what one node sees: its id, the bound of the distances, its registers, and its neighbours with
-- theirs, by id
pub record LocalView : Type 0 where
  pub id : ℕ
  pub bound : ℕ
  pub own : TreeRegs
  pub near : List (ℕ × TreeRegs)

-- what a view has to be made of: some bound, and neighbours by strictly ascending id, none of
-- which is the node itself
pub record IsView (id bound : ℕ) (near : List (ℕ × TreeRegs)) : Type 0 where
  pub bounded : 0 < bound
  pub ascending : IsStrictlyIncreasing (ids_of near)
  pub others : list_any (λ j. j.0 == id) near ≢ true

-- the father is a neighbour, and passes the test
abbrev pub father_passes : (TreeRegs → Bool) → LocalView → Bool
father_passes p v = option_map_or p (regs_of v.own.father v.near) false

-- the father's registers, and the node's own where the father is no neighbour
abbrev pub father_regs : LocalView → TreeRegs
father_regs v = option_map_or (λ up. up) (regs_of v.own.father v.near) v.own

-- some neighbour that is asked passes the test
abbrev pub asked_passes : (TreeRegs → Bool) → List (ℕ × TreeRegs) → Bool
asked_passes p asked = list_any (λ j. p j.1) asked

-- the first neighbour that is asked becomes the father; where none is asked nothing changes
abbrev pub adopts : TreeRegs → List (ℕ × TreeRegs) → TreeRegs
adopts own [] = own
adopts own (j ∷ js) = adopted j.0 j.1

-- their distances are below the bound
abbrev pub AreBelow : ℕ → List (ℕ × TreeRegs) → Type 0
AreBelow K [] = Unit {0}
AreBelow K (j ∷ js) = (j.1.dist < K) × AreBelow K js

-- the rows, where rows 7 and 8 may adopt the neighbours that are asked
abbrev pub tree_table : LocalView → List (ℕ × TreeRegs) → List (Row (Result TreeRegs TreeRefusal))
tree_table v asked =
    let K = v.bound in
    let root = v.own.root in
    let father = v.own.father in
    let dist = v.own.dist in
    let claim = codes "root, father, dist := id, id, 0" in
    let follow = codes "root, dist := root.j, min(dist.j + 1, K)" in
    let adopt = codes "root, father, dist := root.j, j, dist.j + 1" in
    record {
      number = 1;
      name = codes "claim-low";
      guard = codes "root < id";
      effect = claim;
      holds = nat_lt root v.id;
      does = Ok (claimed v.id);
    }
    ∷ record {
      number = 2;
      name = codes "claim-self";
      guard = codes "father = id, and root != id or dist != 0";
      effect = claim;
      holds = father == v.id && (not (root == v.id) || not (dist == 0));
      does = Ok (claimed v.id);
    }
    ∷ record {
      number = 3;
      name = codes "claim-stray";
      guard = codes "father is neither id nor a neighbour";
      effect = claim;
      holds = not (father == v.id) && not (father_passes (λ _. true) v);
      does = Ok (claimed v.id);
    }
    ∷ record {
      number = 4;
      name = codes "claim-far";
      guard = codes "dist >= K";
      effect = claim;
      holds = nat_le K dist;
      does = Ok (claimed v.id);
    }
    ∷ record {
      number = 5;
      name = codes "follow-root";
      guard = codes "father = j a neighbour, dist < K, root != root.j";
      effect = follow;
      holds = father_passes (λ up. nat_lt dist K && not (root == up.root)) v;
      does = Ok (followed K father (father_regs v));
    }
    ∷ record {
      number = 6;
      name = codes "follow-dist";
      guard = codes "father = j a neighbour, dist < K, root = root.j, dist != dist.j + 1";
      effect = follow;
      holds = father_passes (λ up. nat_lt dist K && root == up.root && not (dist == up.dist + 1)) v;
      does = Ok (followed K father (father_regs v));
    }
    ∷ record {
      number = 7;
      name = codes "adopt-root";
      guard = codes "j a neighbour, dist.j < K, root < root.j";
      effect = adopt;
      holds = asked_passes (λ j. nat_lt j.dist K && nat_lt root j.root) asked;
      does = Ok (adopts v.own asked);
    }
    ∷ record {
      number = 8;
      name = codes "adopt-short";
      guard = codes "j a neighbour, dist.j < K, root = root.j, dist.j + 1 < dist";
      effect = adopt;
      holds = asked_passes (λ j. nat_lt j.dist K && root == j.root && nat_lt (j.dist + 1) dist) asked;
      does = Ok (adopts v.own asked);
    }
    ∷ []

-- the rows that name a neighbour
abbrev pub names_neighbour : ℕ → Bool
names_neighbour n = n == 7 || n == 8

-- case n, with this neighbour named: what the registers become, or the first refusal
abbrev pub tree_fired : LocalView → ℕ → Option ℕ → Result TreeRegs TreeRefusal
tree_fired v n named =
    fired_naming 8 names_neighbour NoSuchCase StrangeNeighbour NotEnabled (tree_table v) v.near n named
