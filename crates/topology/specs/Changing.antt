-- A graph with one link or one node more or less, and why it can't be had.
use Rattle.std.specs.Prelude.{◌≡◌, ℕ, ◌<◌, ◌*◌, Bool, not, nat_lt, List, [], ◌∷◌, ◌++◌, Option, Some, None, length, filter, ◌&&◌, ◌||◌}
use Rattle.std.specs.Prelude.{slice_index, ◌==◌, if◌then◌else◌}
use Rattle.std.specs.FinSet as set
use Rattle.topology.specs.Graph.{Graph, are_linked, has, is_node}
use Rattle.topology.specs.Rows.{Membership}
use Rattle.topology.specs.declared.fault.TopoFault.{TopoFault}
use Rattle.topology.specs.declared.fault.TopoFault.TheVariants.{TooManyLinks, StrangeNode, SelfLink}
use Rattle.topology.specs.declared.fault.TopoFault.TheVariants.{NoSuchLink, LinkIsThere, NodeIsUp}

-- the graph with the link of a and b too
abbrev pub with_link : Graph → ℕ → ℕ → Graph
with_link g a b = record { ids = g.ids; nodes = g.nodes; links = set.insert (set.insert g.links (a, b)) (b, a) }

-- the graph without the link of a and b
abbrev pub without_link : Graph → ℕ → ℕ → Graph
without_link g a b = record { ids = g.ids; nodes = g.nodes; links = set.remove (set.remove g.links (a, b)) (b, a) }

-- the graph without the node i, whose links are gone with it: the identifier is down
abbrev pub without_node : Graph → ℕ → Graph
without_node g i = record {
  ids = g.ids;
  nodes = filter (λ j. not (j == i)) g.nodes;
  links = set.retain g.links (λ link. not (link.0 == i) && not (link.1 == i));
}

-- the graph with the node i too, which has no links yet
abbrev pub with_node : Graph → ℕ → Graph
with_node g i = record { ids = g.ids; nodes = filter (λ j. has g.nodes j || j == i) g.ids; links = g.links }

-- the same identifiers, of which i is no node
abbrev pub members_without : Membership → ℕ → Membership
members_without r i = record { ids = r.ids; nodes = filter (λ j. not (j == i)) r.nodes }

-- the same identifiers, of which i is a node
abbrev pub members_with : Membership → ℕ → Membership
members_with r i = record { ids = r.ids; nodes = filter (λ j. has r.nodes j || j == i) r.ids }

-- what is told where this holds
pub record Reason (F : Type 0) : Type 0 where
  pub holds : Bool
  pub told : F

abbrev pub when : {F : Type 0} → Bool → F → Reason F
when holds told = record { holds = holds; told = told }

-- what the first reason that holds tells
abbrev pub first_of : {F : Type 0} → List (Reason F) → Option F
first_of [] = None
first_of (reason ∷ reasons) = if reason.holds then Some reason.told else first_of reasons

-- an end that is none of the nodes, a before b
abbrev pub strange_ends : List ℕ → ℕ → ℕ → List (Reason TopoFault)
strange_ends nodes a b = when (not (has nodes a)) (StrangeNode a) ∷ when (not (has nodes b)) (StrangeNode b) ∷ []

-- there are 8192 links or more, each of which is two pairs of the graph
abbrev pub is_full : Graph → Bool
is_full g = not (nat_lt (set.len g.links) (2 * 8192))

-- the first reason why the link of a and b can't be put in
abbrev pub link_fault : Graph → ℕ → ℕ → Option TopoFault
link_fault g a b =
    first_of (strange_ends g.nodes a b
    ++ when (a == b) (SelfLink a) ∷ when (are_linked g a b) LinkIsThere ∷ when (is_full g) TooManyLinks ∷ [])

-- the first reason why the link of a and b can't be taken out: there is none
abbrev pub unlink_fault : Graph → ℕ → ℕ → Option TopoFault
unlink_fault g a b = first_of (strange_ends g.nodes a b ++ when (not (are_linked g a b)) NoSuchLink ∷ [])

-- the reason why the node can't be taken out: there is none that is up
abbrev pub off_fault : Graph → ℕ → Option TopoFault
off_fault g i = first_of (when (not (is_node g i)) (StrangeNode i) ∷ [])

-- the first reason why the node can't be put in: no identifier is its, or it is up
abbrev pub on_fault : Graph → ℕ → Option TopoFault
on_fault g i = first_of (when (not (has g.ids i)) (StrangeNode i) ∷ when (is_node g i) NodeIsUp ∷ [])

-- x stands at the index
abbrev pub IsIndexOf : List ℕ → ℕ → ℕ → Type 0
IsIndexOf xs x i = (i < length xs) × (slice_index xs i ≡ x)
