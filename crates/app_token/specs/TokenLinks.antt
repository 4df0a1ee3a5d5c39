-- The link table of the token: what no link shows where there is one token.
use Rattle.std.specs.Prelude.{ℕ, ◌&&◌, ◌||◌, Bool, List, [], ◌∷◌, Option, codes}
use Rattle.topology.specs.Graph.{has}
use Rattle.action_tables.specs.Table.{Row}
use Rattle.app_interface.specs.LinkTables.{least_fault, link_row}
use Rattle.app_token.specs.Bits.{differ}
use Rattle.app_token.specs.declared.local.TokenLocal.{TokenLocal}

-- a bit is in flight from a to b: a's given bit for b and b's taken bit for a differ
abbrev pub is_in_flight : ℕ → ℕ → TokenLocal → TokenLocal → Bool
is_in_flight a b sender receiver = differ (has sender.given b) (has receiver.taken a)

-- both ends hold the token
abbrev pub two_hold : TokenLocal → TokenLocal → Bool
two_hold own theirs = own.hold && theirs.hold

-- an end holds the token, and a bit is in flight from one end to the other
abbrev pub hold_and_flight : ℕ → ℕ → TokenLocal → TokenLocal → Bool
hold_and_flight i j own theirs =
    (own.hold || theirs.hold) && (is_in_flight i j own theirs || is_in_flight j i theirs own)

-- bits are in flight in both directions
abbrev pub two_flights : ℕ → ℕ → TokenLocal → TokenLocal → Bool
two_flights i j own theirs = is_in_flight i j own theirs && is_in_flight j i theirs own

-- the rows of the link between node i and its neighbour j, asked at i. A row that holds is a fault
abbrev pub token_links : ℕ → ℕ → TokenLocal → TokenLocal → List (Row (Unit {0}))
token_links i j own theirs =
    link_row 1 (codes "two-hold") (codes "own holds, other holds") (two_hold own theirs)
    ∷ link_row 2 (codes "hold-and-flight") (codes "own or other holds, a bit is in flight on the link")
    (hold_and_flight i j own theirs)
    ∷ link_row 3 (codes "two-flights") (codes "bits are in flight in both directions") (two_flights i j own theirs)
    ∷ []

-- the least of the rows that hold
abbrev pub token_link_fault : ℕ → ℕ → TokenLocal → TokenLocal → Option ℕ
token_link_fault i j own theirs = least_fault (token_links i j own theirs)
