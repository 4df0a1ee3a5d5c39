-- What comes of one change, where the rows are a copy that was lent to the calls.
use Rattle.std.proofs.Common.{◌≡◌, ◌≢◌, ℕ, ◌+◌, ◌-◌, ◌≤◌, Bool, true, false, not, List}
use Rattle.std.proofs.Common.{length, get_or, Vec, Global, sym}
use Rattle.std.proofs.Common.{ap, ap₂, subst, subst₂, ◌∙◌, arith, eqb, filter}
use Rattle.std.specs.Vec.{with_items}
use Rattle.std.proofs.lemmas.List.{length-map, with_items_is}
use Rattle.topology.specs.Building.{Isolates, Links, Unlinks}
use Rattle.topology.specs.Changing.{members_without, with_link, without_link, without_node}
use Rattle.topology.specs.Changing.{IsIndexOf}
use Rattle.topology.specs.Graph.{Graph, are_linked, has}
use Rattle.topology.specs.Rows.{row_at, near_has, graph_of, Membership, AreLeadersOf, AreRows, AreParts}
use Rattle.topology.proofs.Changed.{Made, isolated_parts, linked_parts, row_counted, two_fewer, unlinked_parts}
use Rattle.topology.proofs.Inserting.{rows_of}
use Rattle.topology.proofs.RowLemmas.{linked_at, row_here}

module _ (members : Membership) (near : List (Vec ℕ Global)) (old_leaders : List ℕ) (count : ℕ)
    (old : AreParts members.ids members.nodes (rows_of near) old_leaders count)
    (lent_near : List (Vec ℕ Global)) (near_is : lent_near ≡ near) (copy : Vec (Vec ℕ Global) Global)
    (copied : rows_of copy.items ≡ rows_of lent_near)
    (lent : List (Vec ℕ Global)) (lent_is : lent ≡ copy.items) (now : List (Vec ℕ Global)) where
  abbrev ids : List ℕ
  ids = members.ids

  abbrev nodes : List ℕ
  nodes = members.nodes

  abbrev before : Graph
  before = graph_of members.ids members.nodes (rows_of near)

  abbrev changed : List (Vec ℕ Global)
  changed = (with_items copy now).items

  same_rows : rows_of lent ≡ rows_of near
  same_rows = ap rows_of lent_is ∙ copied ∙ ap rows_of near_is

  count_is : length lent ≡ length ids
  count_is = sym (length-map lent (λ row. row.items)) ∙ ap length same_rows ∙ old.tied.as_rows.count

  -- what was lent are rows
  pub lent_rows : AreRows (length lent) (rows_of lent)
  lent_rows = subst₂ AreRows (sym count_is) (sym same_rows) old.tied.as_rows

  written : length (rows_of now) ≡ length lent → rows_of changed ≡ rows_of now
  written same =
      ap rows_of
      (with_items_is copy now
      (omega (arith, length-map now (λ row. row.items), same, ap length lent_is, copy.ok.0)))

  -- where the leaders of the rows were found with them lent once more
  module _ (searched : List (Vec ℕ Global)) (searched_is : searched ≡ changed) (leaders : List ℕ)
      (found : AreLeadersOf (length searched) (rows_of searched) leaders) where
    leads_now : AreRows (length lent) (rows_of now) → AreLeadersOf (length ids) (rows_of now) leaders
    leads_now as_rows =
        let searched_rows : rows_of searched ≡ rows_of now = ap rows_of searched_is ∙ written as_rows.count in
        let searched_count : length searched ≡ length ids =
        omega (
          arith,
          length-map searched (λ row. row.items),
          ap length searched_rows,
          as_rows.count,
          count_is,
        ) in
        subst₂ (λ n r. AreLeadersOf n r leaders) searched_count searched_rows found

    made_of : (made made_now : Membership) → made ≡ made_now → length (rows_of now) ≡ length lent → (links : ℕ) (g : Graph)
        → Made made_now.ids made_now.nodes (rows_of now) leaders links g
        → Made made.ids made.nodes (rows_of changed) leaders links g
    made_of made made_now made_are same links g result =
        subst (λ (r : Membership). Made r.ids r.nodes (rows_of changed) leaders links g) (sym made_are)
        (subst (λ rs. Made made_now.ids made_now.nodes rs leaders links g) (sym (written same)) result)

  module _ (a b i j : ℕ) (at_a : IsIndexOf members.ids a i) (at_b : IsIndexOf members.ids b j) where
    pub with_link_made : (searched : List (Vec ℕ Global)) → searched ≡ changed → (leaders : List ℕ)
        → AreLeadersOf (length searched) (rows_of searched) leaders → (made : Membership) → made ≡ members
        → has members.nodes a ≡ true → has members.nodes b ≡ true → (fresh : Bool)
        → Links (length lent) (rows_of lent) i j fresh (rows_of now) → a ≢ b → are_linked before a b ≡ false →
        Made made.ids made.nodes (rows_of changed) leaders (count + 1) (with_link before a b)
    with_link_made searched searched_is leaders found made made_are a_up b_up fresh put different absent =
        let put_ids : Links (length ids) (rows_of near) i j fresh (rows_of now) =
        subst₂ (λ n r. Links n r i j fresh (rows_of now)) count_is same_rows put in
        let result =
        linked_parts ids nodes (rows_of near) (rows_of now) old_leaders count old i j at_a.0 at_b.0 leaders
        (leads_now searched searched_is leaders found put.as_rows) (ap (has nodes) at_a.1 ∙ a_up)
        (ap (has nodes) at_b.1 ∙ b_up) fresh put_ids (λ e. different (sym at_a.1 ∙ e ∙ at_b.1))
        (ap₂ (are_linked before) at_a.1 at_b.1 ∙ absent) in
        made_of searched searched_is leaders found made members made_are put.as_rows.count (count + 1)
        (with_link before a b)
        (subst₂ (λ x y. Made ids nodes (rows_of now) leaders (count + 1) (with_link before x y)) at_a.1 at_b.1 result)

    module _ (taken : Unlinks (length lent) (rows_of lent) i j (rows_of now)) (there : are_linked before a b ≡ true)
      where
        taken_ids : Unlinks (length ids) (rows_of near) i j (rows_of now)
        taken_ids = subst₂ (λ n r. Unlinks n r i j (rows_of now)) count_is same_rows taken

        there_ids : are_linked before (get_or ids i 0) (get_or ids j 0) ≡ true
        there_ids = ap₂ (are_linked before) at_a.1 at_b.1 ∙ there

        pub some_link : 1 ≤ count
        some_link =
            let as_rows = old.tied.as_rows in
            let near_there : near_has (rows_of near) i j ≡ true =
            sym (linked_at ids (rows_of near) old.tied.as_ids.ascending as_rows i j at_a.0 at_b.0) ∙ there_ids in
            omega (
              arith,
              old.counted,
              two_fewer ids old.tied.as_ids (rows_of near) (rows_of now) as_rows i j at_a.0 at_b.0 taken_ids near_there,
            )

        pub without_link_made : (searched : List (Vec ℕ Global)) → searched ≡ changed → (leaders : List ℕ)
            → AreLeadersOf (length searched) (rows_of searched) leaders → (made : Membership) → made ≡ members →
            Made made.ids made.nodes (rows_of changed) leaders (count - 1) (without_link before a b)
        without_link_made searched searched_is leaders found made made_are =
            let result =
            unlinked_parts ids nodes (rows_of near) (rows_of now) old_leaders count old i j at_a.0 at_b.0 leaders
            (leads_now searched searched_is leaders found taken.as_rows) taken_ids there_ids (count - 1)
            (omega (arith, some_link)) in
            made_of searched searched_is leaders found made members made_are taken.as_rows.count (count - 1)
            (without_link before a b)
            (subst₂ (λ x y. Made ids nodes (rows_of now) leaders (count - 1) (without_link before x y)) at_a.1 at_b.1
            result)

  module _ (a i : ℕ) (at_a : IsIndexOf members.ids a i) (isolated : Isolates (length lent) (rows_of lent) i (rows_of now))
      (searched : List (Vec ℕ Global)) (searched_is : searched ≡ changed) where
    -- what was lent once more are rows
    pub searched_rows : AreRows (length searched) (rows_of searched)
    searched_rows =
        let same : rows_of searched ≡ rows_of now = ap rows_of searched_is ∙ written isolated.as_rows.count in
        let count : length lent ≡ length searched =
        omega (arith, length-map searched (λ row. row.items), ap length same, isolated.as_rows.count) in
        subst₂ AreRows count (sym same) isolated.as_rows

  module _ (a i : ℕ) (at_a : IsIndexOf members.ids a i) (isolated : Isolates (length lent) (rows_of lent) i (rows_of now))
      (searched : List (Vec ℕ Global)) (searched_is : searched ≡ changed) (leaders : List ℕ)
      (found : AreLeadersOf (length searched) (rows_of searched) leaders) (row : Vec ℕ Global)
      (read : row ≡ get_or near i row) (gone : ℕ) (gone_is : gone ≡ length row.items) where
    isolated_ids : Isolates (length ids) (rows_of near) i (rows_of now)
    isolated_ids = subst₂ (λ n r. Isolates n r i (rows_of now)) count_is same_rows isolated

    row_is : row_at (rows_of near) i ≡ row.items
    row_is =
        row_here (length ids) near old.tied.as_rows i row at_a.0 read

    pub row_links : gone ≤ count
    row_links =
        omega (
          arith,
          row_counted ids nodes (rows_of near) (rows_of now) old_leaders count old i at_a.0 leaders
              (leads_now searched searched_is leaders found isolated.as_rows) isolated_ids,
          ap length row_is,
          gone_is,
        )

    pub without_node_made : (made : Membership) → made ≡ members_without members a →
        Made made.ids made.nodes (rows_of changed) leaders (count - gone) (without_node before a)
    without_node_made made made_is =
        let result =
        isolated_parts ids nodes (rows_of near) (rows_of now) old_leaders count old i at_a.0 leaders
        (leads_now searched searched_is leaders found isolated.as_rows) isolated_ids (count - gone)
        (omega (arith, row_links, ap length row_is, gone_is)) in
        made_of searched searched_is leaders found made (members_without members a) made_is isolated.as_rows.count
        (count - gone) (without_node before a)
        (subst (λ x. Made ids (filter (λ n. not (eqb n x)) nodes) (rows_of now) leaders (count - gone)
        (without_node before x)) at_a.1 result)
