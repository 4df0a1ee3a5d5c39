-- From checked lists to a topology.
use Rattle.std.proofs.Common.{◌≡◌, ℕ, ◌≤◌, List, length, Vec, Global}
use Rattle.std.proofs.Common.{ap, sym, subst, ◌∙◌}
use Rattle.std.proofs.lemmas.List.{length-map}
use Rattle.topology.specs.Building.{AreSorted, AreApart, AreJoined}
use Rattle.topology.specs.Faults.{IsTopologyOf}
use Rattle.topology.specs.Rows.{graph_of, Membership, AreIds, AreLeadersOf, AreParts}
use Rattle.topology.specs.declared.fault.TheConstants.{MAX_LINKS}
use Rattle.topology.proofs.Counting.{links_counted}
use Rattle.topology.proofs.FaultOrder.{clean_lists, clean_all, graph_of_lists}
use Rattle.topology.proofs.Inserting.{rows_of}
use Rattle.topology.proofs.RowLemmas.{all_tied}

-- ---- a topology of checked lists

module _ (nodes ids : List ℕ) (links : List (ℕ × ℕ)) (rows : List (List ℕ)) (as_ids : AreIds ids)
    (sorted : AreSorted nodes ids) (few : length links ≤ MAX_LINKS)
    (apart : AreApart ids links) (joined : AreJoined ids links rows) where
  parts : (leaders : List ℕ) → AreLeadersOf (length ids) rows leaders → AreParts ids ids rows leaders (length links)
  parts leaders lead = record {
    tied = all_tied ids rows as_ids joined.as_rows;
    as_leaders = lead;
    counted =
        links_counted nodes ids links rows (graph_of_lists nodes ids as_ids sorted links apart rows joined)
        joined.distinct apart.different;
  }

  topology_of_lists : IsTopologyOf nodes links (graph_of ids ids rows)
  topology_of_lists = record {
    sound = clean_all nodes links
        (clean_lists nodes ids as_ids sorted links few apart.known apart.different joined.distinct);
    exact = graph_of_lists nodes ids as_ids sorted links apart rows joined;
  }

-- the same, where the ids are the list that was checked, and the rows were lent to the call that found the leaders
module _ (nodes : List ℕ) (members : Membership) (links : List (ℕ × ℕ)) (near : Vec (Vec ℕ Global) Global) (ids : List ℕ)
    (members_are : members ≡ record { ids = ids; nodes = ids }) (as_ids : AreIds ids) (sorted : AreSorted nodes ids)
    (few : length links ≤ MAX_LINKS) (apart_made : AreApart members.ids links)
    (joined_made : AreJoined members.ids links (rows_of near.items)) where
  ids_are : members.ids ≡ ids
  ids_are = ap (λ (r : Membership). r.ids) members_are

  apart : AreApart ids links
  apart = subst (λ xs. AreApart xs links) ids_are apart_made

  joined : AreJoined ids links (rows_of near.items)
  joined = subst (λ xs. AreJoined xs links (rows_of near.items)) ids_are joined_made

  pub built_topology : IsTopologyOf nodes links (graph_of members.ids members.nodes (rows_of near.items))
  built_topology =
      subst (λ (r : Membership). IsTopologyOf nodes links (graph_of r.ids r.nodes (rows_of near.items))) (sym members_are)
      (topology_of_lists nodes ids links (rows_of near.items) as_ids sorted few apart joined)

  pub built_parts : (lent : List (Vec ℕ Global)) → lent ≡ near.items → (leaders : List ℕ)
      → AreLeadersOf (length lent) (rows_of lent) leaders
      → AreParts members.ids members.nodes (rows_of near.items) leaders (length links)
  built_parts lent lent_is leaders lead =
      let count : length near.items ≡ length ids =
      sym (length-map near.items (λ row. row.items)) ∙ joined.as_rows.count in
      subst (λ (r : Membership). AreParts r.ids r.nodes (rows_of near.items) leaders (length links)) (sym members_are)
      (parts nodes ids links (rows_of near.items) as_ids sorted few apart joined leaders
      (subst (λ n. AreLeadersOf n (rows_of near.items) leaders) count
      (subst (λ v. AreLeadersOf (length v) (rows_of v) leaders) lent_is lead)))
