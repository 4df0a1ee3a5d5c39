-- A node and its neighbours are put into doubt, one after another.
use Rattle.std.proofs.Common.{◌≡◌, ◌≢◌, ℕ, suc, ◌+◌, ◌<◌, Bool, true, false, List, [], ◌∷◌, ◌++◌, All, Contains, length}
use Rattle.std.proofs.Common.{map, take}
use Rattle.std.proofs.Common.{slice_index, slice_index_or, ⊎_elim, refl, sym, ap, subst, ◌∙◌, ◌&&◌, arith}
use Rattle.std.proofs.lemmas.List.{get_or-map, get_or_default, length-map, take_more}
use Rattle.std.proofs.lemmas.List.Elements.{Contains-push_cases}
use Rattle.topology.specs.Graph.{Graph, IsGraph, are_linked, neighbours_of, has}
use Rattle.topology.proofs.Ascending.{index_once}
use Rattle.topology.proofs.Membership.{Contains-has, has-Contains, has-filter}
use Rattle.reset_machine.specs.ReadySet.{Doubts, DoubtsAround, IsApart, IsKnownIdle, IsKnownReady}
use Rattle.reset_machine.specs.ReadySet.{IsStanding}
use Rattle.reset_machine.specs.ReadySet.{Standing}
use Rattle.reset_machine.proofs.Standings.{node_below}

-- what is known of the nodes is known as before, but of those in the list nothing
pub record DoubtsEach (old : Standing) (ns : List ℕ) (new : Standing) : Type 0 where
  pub count : length new.nodes ≡ length old.nodes
  pub ready : (m : ℕ) → IsKnownReady new m → IsKnownReady old m × (Contains ns m → ⊥)
  pub idle : (m : ℕ) → IsKnownIdle new m → IsKnownIdle old m × (Contains ns m → ⊥)

one_of : (n m : ℕ) → m ≢ n → Contains (n ∷ []) m → ⊥
one_of n m other (k, low, at) =
    let first : k ≡ 0 = omega (arith, low) in
    other (sym at ∙ ap (λ i. slice_index_or (n ∷ []) i m) first)

pub doubts_first : (s t : Standing) (n : ℕ) → Doubts s n t → DoubtsEach s (n ∷ []) t
doubts_first s t n h = record {
  count = h.count;
  ready = λ m is. let before = h.ready m is in (before.0, one_of n m before.1);
  idle = λ m is. let before = h.idle m is in (before.0, one_of n m before.1);
}

doubts_more : (r s t : Standing) (ns : List ℕ) (n : ℕ) → DoubtsEach r ns s → Doubts s n t
    → DoubtsEach r (ns ++ n ∷ []) t
doubts_more r s t ns n so_far h = record {
  count = h.count ∙ so_far.count;
  ready = λ m is. let here = h.ready m is in let before = so_far.ready m here.0 in
      (before.0, λ among. ⊎_elim before.1 (λ e. here.1 (sym e)) (Contains-push_cases ns n m among));
  idle = λ m is. let here = h.idle m is in let before = so_far.idle m here.0 in
      (before.0, λ among. ⊎_elim before.1 (λ e. here.1 (sym e)) (Contains-push_cases ns n m among));
}

-- the neighbour at this place too
pub doubts_next : (r s t : Standing) (n : ℕ) (near : List ℕ) (i : ℕ) → i < length near
    → DoubtsEach r (n ∷ take i near) s → Doubts s (slice_index near i) t → DoubtsEach r (n ∷ take (i + 1) near) t
doubts_next r s t n near i low so_far h =
    subst (λ ns. DoubtsEach r (n ∷ ns) t) (sym (take_more near i 0 low))
    (doubts_more r s t (n ∷ take i near) (slice_index near i) so_far h)

module _ (g : Graph) (s t : Standing) (i : ℕ) (graph : IsGraph g) (h : IsStanding s) (low : i < length g.ids)
    (count : length s.nodes ≡ length g.ids) where
  abbrev id_of : ℕ → ℕ
  id_of n = slice_index g.ids n

  -- a node that is neither this one nor among its neighbours is apart
  apart : (near : List ℕ) (n : ℕ) → map id_of near ≡ neighbours_of g (id_of i) → All (λ m. m < length g.ids) near
      → n < length g.ids → (Contains (i ∷ near) n → ⊥) → IsApart g i n
  apart near n are within n_low others = (
    λ same. others (0, omega arith, index_once g.ids graph.ascending i n low n_low (sym same)),
    unlinked (are_linked g (id_of n) (id_of i)) refl,
  )
    where
      unlinked : (b : Bool) → are_linked g (id_of n) (id_of i) ≡ b → are_linked g (id_of n) (id_of i) ≡ false
      unlinked false is = is
      unlinked true is =
          let node : has g.ids (id_of n) ≡ true =
          has-Contains g.ids (id_of n) (n, n_low, get_or_default g.ids n (id_of n) 0 n_low) in
          let among : has (neighbours_of g (id_of i)) (id_of n) ≡ true =
          has-filter (are_linked g (id_of i)) g.ids (id_of n)
          ∙ ap (λ b. b && has g.ids (id_of n)) (graph.symmetric (id_of i) (id_of n) ∙ is) ∙ node in
          let at = Contains-has (map id_of near) (id_of n) (ap (λ ids. has ids (id_of n)) are ∙ among) in
          let short : at.0 < length near = omega (arith, at.1, length-map near id_of) in
          let m = slice_index near at.0 in
          let here : m ≡ n =
          index_once g.ids graph.ascending m n (within at.0 0 short) n_low
          (sym (get_or-map id_of near at.0 0 (id_of n) short) ∙ at.2) in
          absurd (others (
            suc at.0,
            omega (arith, short),
            get_or_default near at.0 n 0 short ∙ here,
          ))

  pub doubts_around : (near : List ℕ) → map id_of near ≡ neighbours_of g (id_of i) → All (λ m. m < length g.ids) near
      → DoubtsEach s (i ∷ near) t → DoubtsAround g s i t
  doubts_around near are within doubts = record {
    count = doubts.count;
    ready = λ n is. let before = doubts.ready n is in
        let place = before.0 in
        let n_low : n < length g.ids =
        omega (arith, place.2, count, node_below s h place.0 (omega (arith, place.1, h.parts, h.within))) in
        (before.0, apart near n are within n_low before.1);
    idle = λ n is. let before = doubts.idle n is in
        let place = before.0 in
        let n_low : n < length g.ids = omega (arith, place.3, count, node_below s h place.0 place.2) in
        (before.0, apart near n are within n_low before.1);
  }
