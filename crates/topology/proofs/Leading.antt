-- The leaders of indexes, found from the greatest start on.
use Rattle.std.proofs.Common.{◌≡◌, ℕ, ◌+◌, ◌<◌, ◌≤◌, true, List, [], ◌∷◌, length, get_or, sym, ap}
use Rattle.std.proofs.Common.{subst, ◌∙◌, arith, ⊎_elim}
use Rattle.std.proofs.lemmas.Bool.{cases_eq, cases_lt}
use Rattle.topology.specs.Components.{leader}
use Rattle.topology.specs.Graph.{Graph, IsGraph, IsLeader, IsNode, IsReached, IsWalk, has}
use Rattle.topology.specs.Rows.{graph_of, near_has, AreLeaders, AreTied}
use Rattle.topology.specs.Searching.{IsRowWalk, LeadsReached}
use Rattle.topology.proofs.Ascending.{index_once, rises_weakly}
use Rattle.topology.proofs.Components.{leader_leads, one_leader, reached_itself, reached_node, reached_on}
use Rattle.topology.proofs.Membership.{Contains-has}
use Rattle.topology.proofs.RowLemmas.{linked_from, linked_to, tied_graph}
use Rattle.topology.proofs.Walks.{index_of_node, reached_back}

-- a walk leads from the id at one index to the id at another
abbrev pub IsReachedAt : List ℕ → List ℕ → List (List ℕ) → ℕ → ℕ → Type 0
IsReachedAt ids nodes rows i j = IsReached (graph_of ids nodes rows) (get_or ids i 0) (get_or ids j 0)

-- an index has its leader if walks from it lead to indexes from `start` on, and else its number
pub record AreLed (ids nodes : List ℕ) (rows : List (List ℕ)) (start : ℕ) (leaders : List ℕ) : Type 0 where
  pub count : length leaders ≡ length ids
  pub small : (k : ℕ) → k < length ids → get_or leaders k 0 ≤ length ids
  pub above : (k : ℕ) → k < length ids → start ≤ get_or leaders k 0
  pub reached : (k : ℕ) → k < length ids → get_or leaders k 0 < length ids
      → IsReachedAt ids nodes rows k (get_or leaders k 0)
  pub greatest : (k j : ℕ) → k < length ids → j < length ids → get_or leaders k 0 < length ids
      → IsReachedAt ids nodes rows k j → j ≤ get_or leaders k 0
  pub free : (k j : ℕ) → k < length ids → j < length ids → get_or leaders k 0 ≡ length ids
      → IsReachedAt ids nodes rows k j → j < start

-- the same, whatever the ids and the nodes are
abbrev pub AreLedFrom : ℕ → List (List ℕ) → ℕ → List ℕ → Type 0
AreLedFrom n rows start leaders =
    (ids nodes : List ℕ) → AreTied ids nodes rows → length ids ≡ n → AreLed ids nodes rows start leaders

module _ (ids nodes : List ℕ) (rows : List (List ℕ)) (tied : AreTied ids nodes rows) where
  abbrev n : ℕ
  n = length ids

  abbrev g : Graph
  g = graph_of ids nodes rows

  are : IsGraph g
  are = tied_graph ids nodes rows tied

  turned : (i j : ℕ) → IsReachedAt ids nodes rows i j → IsReachedAt ids nodes rows j i
  turned i j r = reached_back g are (get_or ids i 0) (get_or ids j 0) r

  joined : (i j k : ℕ) → IsReachedAt ids nodes rows i j → IsReachedAt ids nodes rows j k → IsReachedAt ids nodes rows i k
  joined i j k r s = reached_on g (get_or ids i 0) (get_or ids j 0) (get_or ids k 0) r s

  module _ (start : ℕ) (start_in : start < n) (leaders : List ℕ) (led : AreLed ids nodes rows (start + 1) leaders) where
    -- a start with a leader is reached by no index without
    pub led_same : get_or leaders start 0 < n → AreLed ids nodes rows start leaders
    led_same low = record {
      count = led.count;
      small = led.small;
      above = λ k k_in. omega (arith, led.above k k_in);
      reached = led.reached;
      greatest = led.greatest;
      free = λ k j k_in j_in e r.
          ⊎_elim
          (λ same.
          let top = get_or leaders start 0 in
          let to_top = joined k start top (subst (λ i. IsReachedAt ids nodes rows k i) same r) (led.reached start start_in low)
          in
          absurd (omega (arith, led.free k top k_in low e to_top, led.above start start_in)))
          (λ other. omega (arith, led.free k j k_in j_in e r))
          (cases_eq j start);
    }

    -- a start without a leader is the leader of all that reach it
    module _ (free : get_or leaders start 0 ≡ n) (new : List ℕ) (leads : LeadsReached n rows start leaders new) where
      -- none of these has one yet
      none_yet : (k : ℕ) → k < n → IsReachedAt ids nodes rows k start → get_or leaders k 0 ≡ n
      none_yet k k_in r =
          ⊎_elim
          (λ low.
          let top = get_or leaders k 0 in
          let to_top = joined start k top (turned k start r) (led.reached k k_in low) in
          absurd (omega (arith, led.free start top start_in low free to_top, led.above k k_in)))
          (λ high. omega (arith, led.small k k_in))
          (cases_lt (get_or leaders k 0) n)

      -- link by link of a walk to the start
      led_by_walk : (cs : List ℕ) (i : ℕ) → i < n → IsWalk g (get_or ids i 0) cs (get_or ids start 0)
          → get_or new i 0 ≡ start
      led_by_walk [] i i_in w =
          let same : i ≡ start = index_once ids tied.as_ids.ascending i start i_in start_in w in
          ap (λ k. get_or new k 0) same ∙ leads.itself
      led_by_walk (c ∷ cs) i i_in w =
          let l = linked_from ids rows (get_or ids i 0) c w.0 in
          let j_in : l.j < n = tied.as_rows.within l.i l.j l.near in
          let same : l.i ≡ i = index_once ids tied.as_ids.ascending l.i i l.within i_in l.first in
          let near : near_has rows l.j i ≡ true =
          subst (λ k. near_has rows l.j k ≡ true) same (tied.as_rows.symmetric l.j l.i ∙ l.near) in
          let rest : IsWalk g (get_or ids l.j 0) cs (get_or ids start 0) =
          subst (λ x. IsWalk g x cs (get_or ids start 0)) (sym l.second) w.1 in
          leads.closed l.j i (none_yet l.j j_in (cs, rest)) (led_by_walk cs l.j j_in rest) near
          (none_yet i i_in (c ∷ cs, w))

      -- row by row of a walk to the start
      reached_by_rows : (ks : List ℕ) (i : ℕ) → i < n → IsRowWalk rows i ks start → IsReachedAt ids nodes rows i start
      reached_by_rows [] i i_in w = ([], ap (λ k. get_or ids k 0) w)
      reached_by_rows (k ∷ ks) i i_in w =
          let r = reached_by_rows ks k (tied.as_rows.within i k w.0) w.1 in
          (get_or ids k 0 ∷ r.0, (linked_to ids rows i k i_in w.0, r.1))

      pub led_more : AreLed ids nodes rows start new
      led_more = record {
        count = leads.count ∙ led.count;
        small = λ k k_in.
            ⊎_elim (λ same. omega (arith, same, led.small k k_in)) (λ led_now. omega (arith, led_now.1)) (leads.each k);
        above = λ k k_in.
            ⊎_elim (λ same. omega (arith, same, led.above k k_in)) (λ led_now. omega (arith, led_now.1)) (leads.each k);
        reached = λ k k_in less.
            ⊎_elim
            (λ same.
            subst (λ i. IsReachedAt ids nodes rows k i) (sym same) (led.reached k k_in (omega (arith, same, less))))
            (λ led_now.
            subst (λ i. IsReachedAt ids nodes rows k i) (sym led_now.1) (reached_by_rows led_now.2 k k_in led_now.3))
            (leads.each k);
        greatest = λ k j k_in j_in less r.
            ⊎_elim (λ same. omega (arith, same, led.greatest k j k_in j_in (omega (arith, same, less)) r))
            (λ led_now.
            let from_start = joined start k j (turned k start (reached_by_rows led_now.2 k k_in led_now.3)) r in
            omega (arith, led_now.1, led.free start j start_in j_in free from_start))
            (leads.each k);
        free = λ k j k_in j_in e r.
            ⊎_elim
            (λ same. ⊎_elim
            (λ at_start.
            let to_start : IsReachedAt ids nodes rows k start = subst (λ i. IsReachedAt ids nodes rows k i) at_start r in
            absurd (omega (arith, led_by_walk to_start.0 k k_in to_start.1, e)))
            (λ other. omega (arith, led.free k j k_in j_in (sym same ∙ e) r))
            (cases_eq j start))
            (λ led_now. absurd (omega (arith, led_now.1, e)))
            (leads.each k);
      }

  -- after the last start each has its leader
  module _ (leaders : List ℕ) (led : AreLed ids nodes rows 0 leaders) where
    within : (k : ℕ) → k < n → get_or leaders k 0 < n
    within k k_in =
        ⊎_elim (λ low. low)
        (λ high.
        let none = led.free k k k_in k_in (omega (arith, led.small k k_in)) (reached_itself g (get_or ids k 0)) in
        absurd (omega (arith, none)))
        (cases_lt (get_or leaders k 0) n)

    leads_at : (k : ℕ) → k < n → has nodes (get_or ids k 0) ≡ true
        → IsLeader g (get_or ids k 0) (get_or ids (get_or leaders k 0) 0)
    leads_at k k_in up = record {
      reached = led.reached k k_in (within k k_in);
      greatest = λ x r.
          let node : IsNode g (get_or ids k 0) = Contains-has nodes (get_or ids k 0) up in
          let at = index_of_node ids x (are.within x (reached_node g (get_or ids k 0) x are node r)) in
          let low =
          led.greatest k at.0 k_in at.1 (within k k_in)
          (subst (λ y. IsReached g (get_or ids k 0) y) (sym at.2) r) in
          omega (arith, at.2, rises_weakly ids tied.as_ids.ascending at.0 (get_or leaders k 0) low (within k k_in));
    }

    pub led_all : AreLeaders ids nodes rows leaders
    led_all = record {
      count = led.count;
      within = within;
      leads = λ k k_in up.
          let i : ℕ = get_or ids k 0 in
          one_leader g i (get_or ids (get_or leaders k 0) 0) (leader g i) (leads_at k k_in up)
          (leader_leads g i are (Contains-has nodes i up));
    }
