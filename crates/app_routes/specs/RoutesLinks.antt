-- The link table of the routes: what no link shows where every entry is a route.
use Rattle.std.specs.Prelude.{ℕ, ◌-◌, ◌==◌, ◌&&◌, Bool, false, ltb, List, [], ◌∷◌, Option, codes}
use Rattle.std.specs.List.{list_any}
use Rattle.std.specs.Option.{is_none, option_map_or}
use Rattle.action_tables.specs.Table.{Row}
use Rattle.app_interface.specs.LinkTables.{least_fault, link_row}
use Rattle.app_routes.specs.Entries.{route_of}
use Rattle.app_routes.specs.declared.entry.Entry.{Entry}

-- the entry is a way over j, of one link at least
abbrev pub leads_over : ℕ → Entry → Bool
leads_over j e = ltb 0 e.hops && e.next == j

-- the entry is a way over j, and j, whose entries are `theirs`, has no entry for its destination
abbrev pub leads_nowhere : ℕ → List Entry → Entry → Bool
leads_nowhere j theirs e = leads_over j e && is_none (route_of theirs e.destination)

-- the entry is a way over j, of h hops, and j's entry for its destination has more than h - 1
abbrev pub leads_no_nearer : ℕ → List Entry → Entry → Bool
leads_no_nearer j theirs e =
    leads_over j e && option_map_or (λ f. ltb (e.hops - 1) f.hops) (route_of theirs e.destination) false

-- the rows of the link between a node and its neighbour j, asked at the node. A row that holds is a
-- fault
abbrev pub routes_links : ℕ → List Entry → List Entry → List (Row (Unit {0}))
routes_links j own theirs =
    link_row 1 (codes "no-entry") (codes "own entry (d, h, other) with h > 0, other has no entry for d")
    (list_any (leads_nowhere j theirs) own)
    ∷ link_row 2 (codes "not-nearer")
    (codes "own entry (d, h, other) with h > 0, other's entry for d has more than h - 1 hops")
    (list_any (leads_no_nearer j theirs) own)
    ∷ []

-- the least of the rows that hold
abbrev pub routes_link_fault : ℕ → List Entry → List Entry → Option ℕ
routes_link_fault j own theirs = least_fault (routes_links j own theirs)
