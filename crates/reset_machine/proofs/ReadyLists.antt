-- The ready nodes' identifiers, sorted, are all that are ready.
use Rattle.std.proofs.Common.{◌≡◌, ℕ, ◌<◌, ◌&&◌, nat_eq, true, List, Contains, map, length}
use Rattle.std.proofs.Common.{take, slice_index, slice_index_or, ⊎_elim, refl, sym, ap, ◌∙◌, arith}
use Rattle.std.proofs.Common.{Result, Ok, Err, IfOk}
use Rattle.std.specs.List.{All}
use Rattle.std.specs.List.Sorted.{IsNonDecreasing, IsPermutation}
use Rattle.std.proofs.lemmas.Bool.{and_parts, cases_lt, false≢true, ne_eqb}
use Rattle.std.proofs.lemmas.List.{get_or-map, get_or-take, get_or_default, length-map, length-take-le}
use Rattle.std.proofs.lemmas.List.Kept.{IsStrictlyIncreasing-filter}
use Rattle.std.proofs.lemmas.List.Sorted.{Contains-permutation, IsPermutation-sym}
use Rattle.std.proofs.lemmas.Map.Keys.{IsDistinct-IsPermutation, IsDistinct-from_apart}
use Rattle.std.proofs.lemmas.Map.Keys.{IsStrictlyIncreasing-from_distinct}
use Rattle.app_interface.specs.Application.{App}
use Rattle.topology.specs.Graph.{IsGraph, has}
use Rattle.topology.proofs.Ascending.{index_once}
use Rattle.topology.proofs.Membership.{Contains-has, has-Contains, has-filter}
use Rattle.topology.proofs.OneResult.{same_ascending}
use Rattle.reset_model.specs.Configuration.{Configuration}
use Rattle.reset_machine.specs.Enabled.{is_ready, ready_of}
use Rattle.reset_machine.specs.Known.{IsKnown}
use Rattle.reset_machine.specs.ReadySet.{IsStanding, Standing}
use Rattle.reset_machine.proofs.Standings.{eq_flips, node_below, node_once, node_placed}

module _ {L : Type 0} (app : App L) (c : Configuration L) (s : Standing) (graph : IsGraph c.graph) (h : IsStanding s)
    (known : IsKnown app c s) where
  abbrev id_of : ℕ → ℕ
  id_of n = slice_index c.graph.ids n

  abbrev known_ids : List ℕ
  known_ids = map id_of (take s.ready s.nodes)

  -- the nodes that are known as ready are nodes
  pub ready_nodes : All (λ n. n < length c.graph.ids) (take s.ready s.nodes)
  ready_nodes k d low =
      let short : k < s.ready = omega (arith, low, length-take-le s.ready s.nodes (omega (arith, h.parts, h.within))) in
      let there : k < length s.nodes = omega (arith, h.parts, h.within) in
      omega (
        arith,
        get_or-take s.ready s.nodes k d short,
        get_or_default s.nodes k d 0 there,
        node_below s h k there,
        known.count,
      )

  count_known : length known_ids ≡ s.ready
  count_known =
      length-map (take s.ready s.nodes) id_of ∙ length-take-le s.ready s.nodes (omega (arith, h.parts, h.within))

  known_id : (k d : ℕ) → k < s.ready → slice_index_or known_ids k d ≡ id_of (slice_index s.nodes k)
  known_id k d low =
      let short : k < length (take s.ready s.nodes) =
      omega (arith, length-take-le s.ready s.nodes (omega (arith, h.parts, h.within))) in
      get_or-map id_of (take s.ready s.nodes) k 0 d short ∙ ap id_of (get_or-take s.ready s.nodes k 0 low)

  below : (k : ℕ) → k < s.ready → slice_index s.nodes k < length c.graph.ids
  below k low = omega (arith, node_below s h k (omega (arith, h.parts, h.within)), known.count)

  module _ (settled : s.ready ≡ s.idle) (xs : List ℕ) (sorted : IsNonDecreasing xs)
      (same : IsPermutation known_ids xs) where
    pub ready_all : xs ≡ ready_of app c
    ready_all =
        same_ascending xs (ready_of app c)
        (IsStrictlyIncreasing-from_distinct xs sorted
        (IsDistinct-IsPermutation nat_eq eq_flips known_ids xs same
        (IsDistinct-from_apart nat_eq known_ids
        (λ i j d less low. let j_low : j < s.ready = omega (arith, low, count_known) in
        let i_low : i < s.ready = omega arith in
        ne_eqb (slice_index_or known_ids i d) (slice_index_or known_ids j d)
        (λ e. omega (
          arith,
          node_once s h i j (omega (arith, h.parts, h.within)) (omega (arith, h.parts, h.within))
              (index_once c.graph.ids graph.ascending (slice_index s.nodes i) (slice_index s.nodes j) (below i i_low)
              (below j j_low) (sym (known_id i d i_low) ∙ e ∙ known_id j d j_low)),
        ))))))
        (IsStrictlyIncreasing-filter (is_ready app c) c.graph.ids graph.ascending) to from
      where
        to : (z : ℕ) → Contains xs z → Contains (ready_of app c) z
        to z there =
            let at = Contains-permutation xs known_ids z (IsPermutation-sym known_ids xs same) there in
            let low : at.0 < s.ready = omega (arith, at.1, count_known) in
            let n = slice_index s.nodes at.0 in
            let is : id_of n ≡ z = sym (known_id at.0 z low) ∙ at.2 in
            let ready : is_ready app c z ≡ true = ap (is_ready app c) (sym is) ∙ known.ready n (at.0, low, refl) in
            let node : has c.graph.ids z ≡ true =
            has-Contains c.graph.ids z (n, below at.0 low, get_or_default c.graph.ids n z 0 (below at.0 low) ∙ is) in
            Contains-has (ready_of app c) z
            (has-filter (is_ready app c) c.graph.ids z ∙ ap (λ b. b && has c.graph.ids z) ready ∙ node)

        from : (z : ℕ) → Contains (ready_of app c) z → Contains xs z
        from z there =
            let parts = and_parts (is_ready app c z) (has c.graph.ids z)
            (sym (has-filter (is_ready app c) c.graph.ids z) ∙ has-Contains (ready_of app c) z there) in
            let at = Contains-has c.graph.ids z parts.1 in
            let is : id_of at.0 ≡ z = get_or_default c.graph.ids at.0 0 z at.1 ∙ at.2 in
            let place = node_placed s h at.0 (omega (arith, at.1, known.count)) in
            ⊎_elim
            (λ low. Contains-permutation known_ids xs z same
            (place.0, omega (arith, low, count_known), known_id place.0 z low ∙ ap id_of place.2 ∙ is))
            (λ high. absurd (false≢true (sym (known.idle at.0 (place.0, omega (arith, high, settled), place.1, place.2))
            ∙ ap (is_ready app c) is ∙ parts.0)))
            (cases_lt place.0 s.ready)

  -- the same of the vector that is answered, where memory serves
  pub ready_told : (settled : s.ready ≡ s.idle) {V E : Type 0} (items : V → List ℕ) (r : Result V E)
      → IfOk r (λ v. IsNonDecreasing (items v)) → IfOk r (λ v. IsPermutation known_ids (items v))
      → IfOk r (λ v. items v ≡ ready_of app c)
  ready_told settled items (Ok v) sorted same = ready_all settled (items v) sorted same
  ready_told settled items (Err e) sorted same = tt
