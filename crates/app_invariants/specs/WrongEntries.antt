-- Which entries are no routes, and how many of them there are.
use Rattle.std.specs.Prelude.{ℕ, zero, suc, ◌==◌, ◌&&◌, ◌||◌, Bool, ltb, not, List, map}
use Rattle.std.specs.List.{count_by, list_any, sum_by}
use Rattle.topology.specs.Graph.{Graph, are_linked}
use Rattle.app_interface.specs.Ids.{ascends}
use Rattle.app_routes.specs.declared.entry.Entry.{Entry}

-- whether a walk of exactly so many links leads from a to b
abbrev pub is_walked : Graph → ℕ → ℕ → ℕ → Bool
is_walked g a b zero = a == b
is_walked g a b (suc links) = list_any (λ c. are_linked g a c && is_walked g c b links) g.nodes

-- whether one of the entries leads to d in fewer than h links
abbrev pub has_nearer : List Entry → ℕ → ℕ → Bool
has_nearer es d h = list_any (λ e. e.destination == d && ltb e.hops h) es

-- whether the next node of node i's entry e is a neighbour that is nearer to the destination
abbrev pub leads_nearer : Graph → (ℕ → List Entry) → ℕ → Entry → Bool
leads_nearer g v i e = are_linked g i e.next && has_nearer (v e.next) e.destination e.hops

-- whether entry e of node i is a route
abbrev pub is_route : Graph → (ℕ → List Entry) → ℕ → Entry → Bool
is_route g v i e = is_walked g i e.destination e.hops && (e.hops == 0 || leads_nearer g v i e)

-- whether the destinations ascend
abbrev pub is_ascending : List Entry → Bool
is_ascending es = ascends (map (λ e. e.destination) es)

-- how many entries of node i are no routes: all of them where their destinations don't ascend
abbrev pub wrong_at : Graph → (ℕ → List Entry) → ℕ → ℕ
wrong_at g v i = count_by (λ e. not (is_ascending (v i) && is_route g v i e)) (v i)

-- how many entries of all nodes are
abbrev pub wrong_entries : Graph → (ℕ → List Entry) → ℕ
wrong_entries g v = sum_by (wrong_at g v) g.nodes
