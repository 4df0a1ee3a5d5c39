-- Routes: entries in the order of their destinations, and those that are pulled from a neighbour.
use Rattle.std.specs.Prelude.{◌≡◌, ℕ, ◌+◌, ◌<◌, ◌≤◌, ◌^◌, ◌==◌, ◌&&◌, if◌then◌else◌, Bool, true, ltb, List, ◌∷◌, ◌++◌}
use Rattle.std.specs.Prelude.{Option, Result, MatchResult, All, length, map, fold}
use Rattle.std.specs.List.{AllWithin, HoldsAt, filter, find, list_all, list_any}
use Rattle.std.specs.List.Sorted.{IsStrictlyIncreasing}
use Rattle.std.specs.Option.{option_map_or}
use Rattle.topology.specs.Id.{IsId}
use Rattle.app_interface.specs.Ids.{ascends, is_id}
use Rattle.app_routes.specs.declared.entry.Entry.{Entry}

-- two identifiers, and a number of 32 bits
pub record IsEntry (e : Entry) : Type 0 where
  pub destination : IsId e.destination
  pub hops : e.hops < 2 ^ 32
  pub next : IsId e.next

-- the destinations ascend strictly
abbrev pub IsAscending : List Entry → Type 0
IsAscending es = IsStrictlyIncreasing (map (λ e. e.destination) es)

-- entries in strictly ascending order of their destinations
pub record AreRoutes (es : List Entry) : Type 0 where
  pub ascending : IsAscending es
  pub are_entries : All IsEntry es

-- both as tests
abbrev pub is_entry : Entry → Bool
is_entry e = is_id e.destination && (ltb e.hops (2 ^ 32) && is_id e.next)

abbrev pub are_routes : List Entry → Bool
are_routes es = ascends (map (λ e. e.destination) es) && list_all is_entry es

-- the place of the entry for d, or else the place between the entries before it and those after it
abbrev pub IsPlaceOf : List Entry → ℕ → Result ℕ ℕ → Type 0
IsPlaceOf es d r =
    MatchResult r
    (λ i. (i < length es) × HoldsAt (λ e. e.destination ≡ d) es i)
    (λ i. (i ≤ length es) × AllWithin (λ e. e.destination < d) es 0 i
    × AllWithin (λ e. d < e.destination) es i (length es))

-- the entry for destination d
abbrev pub route_of : List Entry → ℕ → Option Entry
route_of es d = find (λ e. e.destination == d) es

-- the entries with e in its place, and no other for its destination
abbrev pub set_route : List Entry → Entry → List Entry
set_route es e =
    filter (λ f. ltb f.destination e.destination) es ++ e ∷ filter (λ f. ltb e.destination f.destination) es

-- the way to j, and from there as e says
abbrev pub over : ℕ → Entry → Entry
over j e = record { destination = e.destination; hops = e.hops + 1; next = j }

-- the way over a neighbour with entry e is below the bound K, and shorter than own entry for the
-- destination, if there is one
abbrev pub is_better : ℕ → List Entry → Entry → Bool
is_better K own e = ltb (e.hops + 1) K && option_map_or (λ o. ltb (e.hops + 1) o.hops) (route_of own e.destination) true

-- the entries with the way over j and e, where it is better than own
abbrev pub take_better : ℕ → ℕ → List Entry → List Entry → Entry → List Entry
take_better K j own es e = if is_better K own e then set_route es (over j e) else es

-- own entries after all better entries of j are taken
abbrev pub pulled : ℕ → ℕ → List Entry → List Entry → List Entry
pulled K j own theirs = fold (take_better K j own) own theirs

-- some entry is better than own
abbrev pub some_better : ℕ → List Entry → List Entry → Bool
some_better K own theirs = list_any (is_better K own) theirs
