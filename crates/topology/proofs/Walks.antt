-- Walks of a graph, and the distances that a search finds.
use Rattle.std.proofs.Common.{◌≡◌, ℕ, zero, suc, ◌<◌, ◌≤◌, true, List, [], ◌∷◌, ◌++◌, length, get_or, Contains}
use Rattle.std.proofs.Common.{sym, refl, ap, subst, ◌∙◌, arith, inl, inr, ⊎_elim}
use Rattle.std.proofs.lemmas.List.{length_push, get_or_default}
use Rattle.std.proofs.lemmas.Bool.{cases_lt}
use Rattle.topology.specs.Graph.{Graph, AreLinked, IsWalk, IsReached, IsDistance, IsDistanceOrNone, IsGraph}
use Rattle.topology.specs.Rows.{near_has, graph_of, AreIds, AreRows}
use Rattle.topology.specs.Searching.{AreDistances}
use Rattle.topology.proofs.Ascending.{index_once}
use Rattle.topology.proofs.RowLemmas.{linked_from, linked_to}

module _ (g : Graph) where
  -- one walk after another
  pub walk_on : (a b c : ℕ) (cs ds : List ℕ) → IsWalk g a cs b → IsWalk g b ds c → IsWalk g a (cs ++ ds) c
  walk_on a b c [] ds w v = subst (λ x. IsWalk g x ds c) (sym w) v
  walk_on a b c (x ∷ xs) ds w v = (w.0, walk_on x b c xs ds w.1 v)

  -- a walk the other way round
  pub walk_back : ((a b : ℕ) → AreLinked g a b → AreLinked g b a) → (a b : ℕ) (cs : List ℕ) → IsWalk g a cs b
      → (ds : List ℕ) × IsWalk g b ds a × (length ds ≡ length cs)
  walk_back turn a b [] w = ([], sym w, refl)
  walk_back turn a b (c ∷ cs) w =
      let r = walk_back turn c b cs w.1 in
      (r.0 ++ a ∷ [], walk_on b c a r.0 (a ∷ []) r.1 (turn a c w.0, refl), length_push r.0 a ∙ omega (arith, r.2))

pub linked_back : (g : Graph) → IsGraph g → (a b : ℕ) → AreLinked g a b → AreLinked g b a
linked_back g are a b e = are.symmetric b a ∙ e

pub reached_back : (g : Graph) → IsGraph g → (a b : ℕ) → IsReached g a b → IsReached g b a
reached_back g are a b r = let w = walk_back g (linked_back g are) a b r.0 r.1 in (w.0, w.1)

-- two numbers that are distances of two nodes are equal
pub same_distance : (g : Graph) (a b d e : ℕ) → IsDistance g a b d → IsDistance g a b e → d ≡ e
same_distance g a b d e p q = omega (arith, p.least q.walk.0 q.walk.1, q.least p.walk.0 p.walk.1, p.walk.2, q.walk.2)

pub distance_turned : (g : Graph) (a b d : ℕ) → IsGraph g → IsDistance g a b d → IsDistance g b a d
distance_turned g a b d are p =
    let back = walk_back g (linked_back g are) a b p.walk.0 p.walk.1 in
    record {
      walk = (back.0, back.1, back.2 ∙ p.walk.2);
      least = λ cs w. let there =
          walk_back g (linked_back g are) b a cs w in omega (arith, p.least there.0 there.1, there.2);
    }

-- ---- what a search finds

module _ (ids nodes : List ℕ) (rows : List (List ℕ)) (as_ids : AreIds ids) (as_rows : AreRows (length ids) rows) (start : ℕ)
    (marks : List ℕ) (found : AreDistances (length ids) rows start marks) where
  -- a mark below the number of rows is the length of a walk
  pub walk_of_mark : (d i : ℕ) → i < length ids → get_or marks i 0 ≡ d → d < length ids →
      (cs : List ℕ) × IsWalk (graph_of ids nodes rows) (get_or ids i 0) cs (get_or ids start 0) × (length cs ≡ d)
  walk_of_mark zero i i_in e low =
      ⊎_elim
      (λ here. ([], ap (λ k. get_or ids k 0) here.1, refl))
      (λ more. absurd (omega (arith, more.3)))
      (found.are_reached.reached i i_in (omega arith))
  walk_of_mark (suc d) i i_in e low =
      ⊎_elim
      (λ here. absurd (omega (arith, here.0)))
      (λ more.
      let r = walk_of_mark d more.0 more.1 (omega (arith, more.3)) (omega arith) in
      (get_or ids more.0 0 ∷ r.0, (linked_to ids rows i more.0 i_in more.2, r.1), ap suc r.2))
      (found.are_reached.reached i i_in (omega arith))

  -- and no walk is shorter than the mark
  mark_of_walk : (cs : List ℕ) (i : ℕ) → i < length ids
      → IsWalk (graph_of ids nodes rows) (get_or ids i 0) cs (get_or ids start 0) →
      (get_or marks i 0 < length ids) × (get_or marks i 0 ≤ length cs)
  mark_of_walk [] i i_in w =
      let same : i ≡ start = index_once ids as_ids.ascending i start i_in found.are_reached.within w in
      let here : get_or marks i 0 ≡ 0 = ap (λ k. get_or marks k 0) same ∙ found.are_reached.at_start in
      (omega (arith, as_ids.some), omega arith)
  mark_of_walk (c ∷ cs) i i_in w =
      let l = linked_from ids rows (get_or ids i 0) c w.0 in
      let j_in : l.j < length ids = as_rows.within l.i l.j l.near in
      let same : l.i ≡ i = index_once ids as_ids.ascending l.i i l.within i_in l.first in
      let near : near_has rows l.j i ≡ true =
      subst (λ k. near_has rows l.j k ≡ true) same (as_rows.symmetric l.j l.i ∙ l.near) in
      let rest =
      mark_of_walk cs l.j j_in
      (subst (λ x. IsWalk (graph_of ids nodes rows) x cs (get_or ids start 0)) (sym l.second) w.1) in
      let step = found.closed l.j i j_in near rest.0 in
      (step.0, omega (arith, step.1, rest.1))

  reached_of_mark : (i : ℕ) → i < length ids → get_or marks i 0 < length ids
      → IsReached (graph_of ids nodes rows) (get_or ids i 0) (get_or ids start 0)
  reached_of_mark i i_in low = let w = walk_of_mark (get_or marks i 0) i i_in refl low in (w.0, w.1)

  -- where a walk leads, the mark is the distance
  pub distance_of_mark : (i : ℕ) → i < length ids → IsReached (graph_of ids nodes rows) (get_or ids i 0) (get_or ids start 0)
      →
      (get_or marks i 0 < length ids)
      × IsDistance (graph_of ids nodes rows) (get_or ids i 0) (get_or ids start 0) (get_or marks i 0)
  distance_of_mark i i_in r =
      let low = (mark_of_walk r.0 i i_in r.1).0 in (
        low,
        record {
          walk = walk_of_mark (get_or marks i 0) i i_in refl low;
          least = λ cs w. (mark_of_walk cs i i_in w).1;
        },
      )

  pub mark_tells : (i : ℕ) → i < length ids
      → IsDistanceOrNone (length ids) (graph_of ids nodes rows) (get_or ids i 0) (get_or ids start 0) (get_or marks i 0)
  mark_tells i i_in =
      ⊎_elim
      (λ low. inl (distance_of_mark i i_in (reached_of_mark i i_in low)))
      (λ free. inr (
        omega (arith, found.are_reached.small i i_in),
        λ r. absurd (omega (arith, (distance_of_mark i i_in r).0)),
      ))
      (cases_lt (get_or marks i 0) (length ids))

-- an id stands at an index
pub index_of_node : (ids : List ℕ) (x : ℕ) → Contains ids x → (i : ℕ) × (i < length ids) × (get_or ids i 0 ≡ x)
index_of_node ids x at = (at.0, at.1, get_or_default ids at.0 0 x at.1 ∙ at.2)

-- a walk of a graph is one of each graph with its links
pub walk_of_other : (g h : Graph) → ((a b : ℕ) → AreLinked g a b → AreLinked h a b) → (a b : ℕ) (cs : List ℕ)
    → IsWalk g a cs b → IsWalk h a cs b
walk_of_other g h to a b [] w = w
walk_of_other g h to a b (c ∷ cs) w = (to a c w.0, walk_of_other g h to c b cs w.1)
