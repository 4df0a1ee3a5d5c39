-- What the routes of all nodes say: the invariant, and where the named nodes lead.
use Rattle.std.specs.Prelude.{◌≡◌, ◌≢◌, ℕ, ◌<◌, ◌≤◌, List, [], ◌∷◌, Some, length, Contains}
use Rattle.std.specs.List.{AllPairs}
use Rattle.topology.specs.Graph.{Graph, IsNode, AreLinked, IsWalk}
use Rattle.app_routes.specs.Entries.{IsAscending, route_of}
use Rattle.app_routes.specs.declared.entry.Entry.{Entry}

-- one of the entries leads to d in fewer than h links
pub record HasNearer (es : List Entry) (d h : ℕ) : Type 0 where
  pub entry : Entry
  pub listed : Contains es entry
  pub same : entry.destination ≡ d
  pub nearer : entry.hops < h

-- entry e of node i tells the links of a walk to its destination, and any but the way to itself names
-- a neighbour that is nearer
pub record IsRoute (g : Graph) (v : ℕ → List Entry) (i : ℕ) (e : Entry) : Type 0 where
  pub walk : (cs : List ℕ) × IsWalk g i cs e.destination × (length cs ≡ e.hops)
  pub linked : 0 < e.hops → AreLinked g i e.next
  pub onward : 0 < e.hops → HasNearer (v e.next) e.destination e.hops

-- the invariant: each entry of each node is a route
pub record HasRoutes (g : Graph) (v : ℕ → List Entry) : Type 0 where
  pub ascending : (i : ℕ) → IsNode g i → IsAscending (v i)
  pub routes : (i : ℕ) (e : Entry) → IsNode g i → Contains (v i) e → IsRoute g v i e

-- the entry of node i for d names its neighbour c, whose own entry for d has fewer hops
pub record Names (g : Graph) (v : ℕ → List Entry) (d i c : ℕ) : Type 0 where
  pub own : Entry
  pub is_own : route_of (v i) d ≡ Some own
  pub named : own.next ≡ c
  pub linked : AreLinked g i c
  pub theirs : Entry
  pub is_theirs : route_of (v c) d ≡ Some theirs
  pub fewer : theirs.hops < own.hops

-- from i through the nodes of the list to d, each named by the one before it
abbrev pub LeadsTo : Graph → (ℕ → List Entry) → ℕ → ℕ → List ℕ → Type 0
LeadsTo g v d i [] = i ≡ d
LeadsTo g v d i (c ∷ cs) = Names g v d i c × LeadsTo g v d c cs

-- the nodes that are named one after another, from i on, are a walk to d of at most h links, and no
-- node comes twice
pub record ArrivesWithin (g : Graph) (v : ℕ → List Entry) (i d h : ℕ) : Type 0 where
  pub nodes : List ℕ
  pub leads : LeadsTo g v d i nodes
  pub walk : IsWalk g i nodes d
  pub short : length nodes ≤ h
  pub no_loop : AllPairs (λ a b. a ≢ b) (i ∷ nodes)
