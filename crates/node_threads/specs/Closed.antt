-- A closed sharing: a list for each node, and each the seat list of its node.
use Rattle.std.specs.Prelude.{◌≡◌, ◌≢◌, ℕ, ◌+◌, ◌<◌, ◌≤◌, Bool, ◌==◌, not, All, Contains, List, ◌∷◌, ◌++◌, length}
use Rattle.std.specs.Prelude.{map, filter, find, sum_by}
use Rattle.std.specs.Prelude.{Option, Some, None}
use Rattle.std.specs.List.{list_any}
use Rattle.app_interface.specs.Application.{App}
use Rattle.topology.specs.Graph.{IsNode}
use Rattle.history.specs.declared.entry.Receipt.{Receipt}
use Rattle.history.specs.Book.{BookView}
use Rattle.node_threads.specs.declared.closing.CloseFault.{CloseFault}
use Rattle.node_threads.specs.declared.closing.CloseFault.TheVariants.{SeatMissing, ListsDiffer, NoMemory}
use Rattle.node_threads.specs.Locked.{HasContinuation, IsContinued}
use Rattle.node_threads.specs.Seats.{SeatView, nodes_of, of_node, receipts_after, seat_list}

-- a node, with what its seat was told
abbrev pub NodeList : Type 0
NodeList = ℕ × List Receipt

abbrev pub list_of : SeatView → NodeList
list_of s = (s.node, s.receipts)

-- each node of the book has a list among these, and each list is the seat list of its node
pub record AreSeatLists {L : Type 0} (app : App L) (from_text : List ℕ → Option L) (b : BookView L) (mark : ℕ)
    (lists : List NodeList) : Type 0 where
  pub all : (i : ℕ) → IsNode b.config.graph i → Contains (map (λ l. l.0) lists) i
  pub told : All (λ l. l.1 ≡ seat_list app from_text b mark l.0) lists

-- how many receipts of this position the lists have
abbrev pub tells_at : List NodeList → ℕ → ℕ
tells_at lists p = sum_by (λ l. length (filter (λ r. r.position == p) l.1)) lists

-- the book and the lists of a closed sharing of the first book: the book is a continuation of it, with one list for each
-- node, as many entries since as the lists have receipts, and each of these in one list, once
pub record IsClosed {L : Type 0} (app : App L) (from_text : List ℕ → Option L) (first b : BookView L)
    (lists : List NodeList) : Type 0 where
  pub seats : AreSeatLists app from_text b (length first.entries) lists
  pub continued : IsContinued app from_text first b
  pub nodes : length b.config.graph.nodes ≡ length lists
  pub counted : length first.entries + sum_by (λ l. length l.1) lists ≡ length b.entries
  pub once : (p : ℕ) → length first.entries < p → p ≤ length b.entries → tells_at lists p ≡ 1

-- ---- why seats don't close a sharing

-- one of the seats is the node's
abbrev pub is_seated : List SeatView → ℕ → Bool
is_seated seats i = list_any (λ s. s.node == i) seats

-- the least node without a seat
abbrev pub first_missing : List ℕ → List SeatView → Option ℕ
first_missing ids seats = find (λ i. not (is_seated seats i)) ids

-- the first seat that wasn't told exactly what these receipts have of its node is one of node i
pub record IsFirstDiffering (told : List Receipt) (seats : List SeatView) (i : ℕ) : Type 0 where
  pub before : List SeatView
  pub seat : SeatView
  pub rest : List SeatView
  pub split : seats ≡ before ++ seat ∷ rest
  pub same : All (λ s. s.receipts ≡ of_node s.node told) before
  pub differs : seat.receipts ≢ of_node seat.node told
  pub node : i ≡ seat.node

-- the first fault of the seats. Want of memory may stand in place of a list that differs
abbrev pub IsUnclosed : {L : Type 0} → App L → (List ℕ → Option L) → BookView L → ℕ → List SeatView → CloseFault
    → Type 0
IsUnclosed app from_text b mark seats (SeatMissing i) = first_missing b.config.graph.nodes seats ≡ Some i
IsUnclosed app from_text b mark seats (ListsDiffer i) =
    (first_missing b.config.graph.nodes seats ≡ None)
    × IsFirstDiffering (receipts_after app from_text b mark) seats i
IsUnclosed app from_text b mark seats NoMemory = first_missing b.config.graph.nodes seats ≡ None

-- how many receipts the seats have
abbrev pub receipt_count : List SeatView → ℕ
receipt_count seats = sum_by (λ s. length s.receipts) seats

-- the book has as many entries after those of the first one as the seats have receipts
abbrev pub IsCounted : {L : Type 0} → BookView L → BookView L → List SeatView → Type 0
IsCounted first b seats = length first.entries + receipt_count seats ≡ length b.entries

-- the first fault of the seats in a sharing of the first book, by the book that was unlocked, which is a continuation of
-- it; and unless a seat is missing the entries since are as many as the receipts
pub record IsFaultOf {L : Type 0} (app : App L) (from_text : List ℕ → Option L) (first b : BookView L)
    (seats : List SeatView) (f : CloseFault) : Type 0 where
  pub continued : IsContinued app from_text first b
  pub fault : IsUnclosed app from_text b (length first.entries) seats f
  pub counted : first_missing b.config.graph.nodes seats ≡ None → IsCounted first b seats

-- the first fault of the seats in a sharing of the first book among these nodes: that a list differs is so in a
-- continuation of it with as many entries since as they have receipts. Want of memory may stand in place of that
abbrev pub IsCloseFault : {L : Type 0} → App L → (List ℕ → Option L) → BookView L → List ℕ → List SeatView → CloseFault
    → Type 0
IsCloseFault app from_text first nodes seats (SeatMissing i) = first_missing nodes seats ≡ Some i
IsCloseFault app from_text first nodes seats (ListsDiffer i) =
    (first_missing nodes seats ≡ None)
    × HasContinuation app from_text first
    (λ b. IsCounted first b seats × IsFirstDiffering (receipts_after app from_text b (length first.entries)) seats i)
IsCloseFault app from_text first nodes seats NoMemory = first_missing nodes seats ≡ None

-- what a run of the first book tells of seats that don't close its sharing: seats of which each node has one, in the
-- nodes' order, have this fault, which isn't a failed allocation, by the book that comes back
pub record HasCloseFault {L : Type 0} (app : App L) (from_text : List ℕ → Option L) (first b : BookView L)
    (f : CloseFault) : Type 0 where
  pub seats : List SeatView
  pub own : nodes_of seats ≡ first.config.graph.nodes
  pub fault : IsFaultOf app from_text first b seats f
  pub other : f ≢ NoMemory
