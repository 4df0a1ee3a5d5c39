-- What is collected of the seats, where each node has one of them.
use Rattle.std.proofs.Common.{◌≡◌, ℕ, suc, ◌+◌, ◌<◌, ◌≤◌, ◌==◌, ◌||◌, Bool, true, false, not}
use Rattle.std.proofs.Common.{All, Contains, List, [], ◌∷◌, ◌++◌, append_assoc, append-nil}
use Rattle.std.proofs.Common.{◌≢◌, IfErr, OnOk, Result, Ok, Err}
use Rattle.std.proofs.Common.{Option, Some, None, length, map, subst, sym, ap, ◌∙◌, refl, arith, sum_by}
use Rattle.std.proofs.lemmas.List.{length-append}
use Rattle.std.proofs.lemmas.List.Sums.{sum_by-append}
use Rattle.std.specs.List.{find}
use Rattle.std.specs.List.Sorted.{IsStrictlyIncreasing}
use Rattle.std.proofs.lemmas.Bool.{false≢true, not-false}
use Rattle.std.proofs.lemmas.List.Elements.{All-map}
use Rattle.topology.specs.Graph.{has}
use Rattle.topology.proofs.Membership.{Contains-has, has-Contains}
use Rattle.reset_model.proofs.FirstFound.{find-none}
use Rattle.app_interface.specs.Application.{App}
use Rattle.history.specs.declared.entry.Receipt.{Receipt}
use Rattle.history.specs.Book.{BookView}
use Rattle.node_threads.specs.Closed.{AreSeatLists, IsCloseFault, IsClosed, IsCounted, IsFaultOf, IsFirstDiffering}
use Rattle.node_threads.specs.Closed.{IsUnclosed, NodeList, first_missing, is_seated, list_of, receipt_count}
use Rattle.node_threads.specs.declared.closing.CloseFault.{CloseFault}
use Rattle.node_threads.specs.declared.closing.CloseFault.TheVariants.{SeatMissing, ListsDiffer, NoMemory}
use Rattle.node_threads.specs.Locked.{IsContinued}
use Rattle.node_threads.specs.Seats.{SeatView, empty_seat, nodes_of, of_node, receipts_after, seat_list}
use Rattle.node_threads.proofs.Few.{few}
use Rattle.node_threads.proofs.Once.{closed_once}

-- the lists of seats are of their nodes
pub lists_nodes : (seats : List SeatView) → map (λ l. l.0) (map list_of seats) ≡ nodes_of seats
lists_nodes [] = refl
lists_nodes (s ∷ ss) = ap (λ ns. s.node ∷ ns) (lists_nodes ss)

-- empty seats are of the nodes that they are made for
empty_nodes : (ids : List ℕ) → nodes_of (map empty_seat ids) ≡ ids
empty_nodes [] = refl
empty_nodes (i ∷ is) = ap (λ ns. i ∷ ns) (empty_nodes is)

-- and so are those that come back for them
pub all_given : (ids : List ℕ) (seats back : List SeatView) → seats ≡ map empty_seat ids → nodes_of back ≡ nodes_of seats
    → nodes_of back ≡ ids
all_given ids seats back empty own = own ∙ (ap nodes_of empty ∙ empty_nodes ids)

-- the nodes of the lists are those that are seated
seated_has : (seats : List SeatView) (i : ℕ) → has (map (λ l. l.0) (map list_of seats)) i ≡ is_seated seats i
seated_has [] i = refl
seated_has (s ∷ ss) i = ap (λ b. (s.node == i) || b) (seated_has ss i)

pub everyone : (ids : List ℕ) (seats : List SeatView) → first_missing ids seats ≡ None → (i : ℕ) → Contains ids i
    → Contains (map (λ l. l.0) (map list_of seats)) i
everyone ids seats none i there =
    let off = find-none (λ k. not (is_seated seats k)) ids i none (has-Contains ids i there) in
    Contains-has (map (λ l. l.0) (map list_of seats)) i (seated_has seats i ∙ not-false (is_seated seats i) off)

-- seats that were told what the book has
pub seat_lists : {L : Type 0} (app : App L) (from_text : List ℕ → Option L) (b : BookView L) (mark : ℕ)
    (told : List Receipt) (seats : List SeatView) → told ≡ receipts_after app from_text b mark
    → first_missing b.config.graph.nodes seats ≡ None → All (λ s. s.receipts ≡ of_node s.node told) seats
    → AreSeatLists app from_text b mark (map list_of seats)
seat_lists app from_text b mark told seats is none all = record {
  all = everyone b.config.graph.nodes seats none;
  told = All-map (λ (l : NodeList). l.1 ≡ seat_list app from_text b mark l.0) list_of seats
      (subst (λ t. All (λ s. s.receipts ≡ of_node s.node t) seats) is all);
}

-- ---- as many lists as nodes

length-lists : (seats : List SeatView) → length (map (λ l. l.0) (map list_of seats)) ≡ length seats
length-lists [] = refl
length-lists (s ∷ ss) = omega (arith, length-lists ss)

pub as_many : (ids : List ℕ) (seats : List SeatView) → IsStrictlyIncreasing ids
    → ((i : ℕ) → Contains ids i → Contains (map (λ l. l.0) (map list_of seats)) i) → length ids ≤ length seats
as_many ids seats up all = omega (
  arith,
  length-lists seats,
  few ids (map (λ l. l.0) (map list_of seats)) up (λ i there. has-Contains (map (λ l. l.0) (map list_of seats)) i (all i
      (Contains-has ids i there))),
)

-- ---- the shares of the seats, put together

-- what was collected so far of the seats, and what is left
pub record IsCollected (parts amount : ℕ) (lists : List NodeList) (rest seats : List SeatView) : Type 0 where
  pub has_parts : parts ≡ 1 + length lists
  pub counts : amount ≡ sum_by (λ l. length l.1) lists
  pub whole : lists ++ map list_of rest ≡ map list_of seats

length-map : (seats : List SeatView) → length (map list_of seats) ≡ length seats
length-map [] = refl
length-map (s ∷ ss) = omega (arith, length-map ss)

-- all parts of the ledger are there, so its total is the number of the receipts
pub closes : {L : Type 0} (app : App L) (from_text : List ℕ → Option L) (first b : BookView L) (nodes : List ℕ)
    (total parts amount all_parts : ℕ) (seats : List SeatView) (lists : List NodeList)
    → IsContinued app from_text first b → b.config.graph.nodes ≡ nodes
    → length first.entries + total ≡ length b.entries → IsStrictlyIncreasing b.config.graph.nodes
    → AreSeatLists app from_text b (length first.entries) (map list_of seats) → lists ≡ map list_of seats
    → parts ≡ 1 + length lists → amount ≡ sum_by (λ l. length l.1) lists → parts ≤ all_parts → all_parts ≡ length nodes + 1
    → (parts ≡ all_parts → amount ≡ total) → IsClosed app from_text first b lists
closes app from_text first b nodes total parts amount all_parts seats lists continued there after up told is
    has_parts counts within cut whole =
    let n = length nodes in
    let same : length lists ≡ length seats = ap length is ∙ length-map seats in
    let many : n ≤ length seats = omega (arith, ap length there, as_many b.config.graph.nodes seats up told.all) in
    let all : length lists ≡ n = omega (arith, same, many, within, cut, has_parts) in
    let sum : sum_by (λ l. length l.1) lists ≡ total = sym counts ∙ whole (omega (arith, has_parts, cut, all)) in
    let these : AreSeatLists app from_text b (length first.entries) lists =
    subst (AreSeatLists app from_text b (length first.entries)) (sym is) told in
    let as_nodes : length b.config.graph.nodes ≡ length lists = ap length there ∙ sym all in
    record {
      seats = these;
      continued = continued;
      nodes = as_nodes;
      counted = ap (λ k. length first.entries + k) sum ∙ after;
      once = closed_once app from_text first b lists continued these up as_nodes;
    }

-- ---- what the comparison decides

pub decides : {L : Type 0} (app : App L) (from_text : List ℕ → Option L) (b : BookView L) (mark : ℕ)
    (told : List Receipt) (seats : List SeatView) (r : Result (Unit {0}) CloseFault)
    → told ≡ receipts_after app from_text b mark → first_missing b.config.graph.nodes seats ≡ None
    → OnOk r (All (λ s. s.receipts ≡ of_node s.node told) seats)
    → IfErr r (λ f. (i : ℕ) → f ≡ ListsDiffer i → IsFirstDiffering told seats i)
    → IfErr r (λ f. (i : ℕ) → f ≢ SeatMissing i)
    → OnOk r (AreSeatLists app from_text b mark (map list_of seats)) × IfErr r (IsUnclosed app from_text b mark seats)
decides app from_text b mark told seats (Ok u) is none all differs other =
    (seat_lists app from_text b mark told seats is none all, tt)
decides app from_text b mark told seats (Err (SeatMissing i)) is none all differs other = absurd (other i refl)
decides app from_text b mark told seats (Err (ListsDiffer i)) is none all differs other =
    (tt, (none, subst (λ t. IsFirstDiffering t seats i) is (differs i refl)))
decides app from_text b mark told seats (Err NoMemory) is none all differs other = (tt, none)

-- a fault of the seats by the book that was unlocked
pub close_fault : {L : Type 0} (app : App L) (from_text : List ℕ → Option L) (first b : BookView L) (nodes : List ℕ)
    (seats : List SeatView) (f : CloseFault) → b.config.graph.nodes ≡ nodes → IsFaultOf app from_text first b seats f
    → IsCloseFault app from_text first nodes seats f
close_fault app from_text first b nodes seats (SeatMissing i) there is =
    subst (λ ns. first_missing ns seats ≡ Some i) there is.fault
close_fault app from_text first b nodes seats (ListsDiffer i) there is = (
  subst (λ ns. first_missing ns seats ≡ None) there is.fault.0,
  record { book = b; continued = is.continued; such = (is.counted is.fault.0, is.fault.1) },
)
close_fault app from_text first b nodes seats NoMemory there is =
    subst (λ ns. first_missing ns seats ≡ None) there is.fault

-- as many receipts as entries, where all parts of the ledger were put together
pub counts : {L : Type 0} (first b : BookView L) (nodes : List ℕ) (total parts all_parts : ℕ) (seats : List SeatView)
    → b.config.graph.nodes ≡ nodes → length first.entries + total ≡ length b.entries
    → IsStrictlyIncreasing b.config.graph.nodes → parts ≡ 1 → parts + length seats ≤ all_parts
    → all_parts ≡ length nodes + 1 → (parts + length seats ≡ all_parts → receipt_count seats ≡ total)
    → first_missing b.config.graph.nodes seats ≡ None → IsCounted first b seats
counts first b nodes total parts all_parts seats there after up one within cut whole none =
    let many : length b.config.graph.nodes ≤ length seats =
    as_many b.config.graph.nodes seats up (everyone b.config.graph.nodes seats none) in
    let sum : receipt_count seats ≡ total = whole (omega (arith, many, ap length there, one, within, cut)) in
    ap (λ k. length first.entries + k) sum ∙ after

-- what is found is there, and passes
found_there : (q : ℕ → Bool) (xs : List ℕ) (j : ℕ) → find q xs ≡ Some j → Contains xs j × (q j ≡ true)
found_there q [] j is = absurd (cc)
found_there q (x ∷ xs) j is = at (q x) refl (found_there q xs j)
  where
    at : (b : Bool) → q x ≡ b → (find q xs ≡ Some j → Contains xs j × (q j ≡ true))
        → Contains (x ∷ xs) j × (q j ≡ true)
    at true passes rest =
        let same : x ≡ j = (let found : Some x ≡ Some j = rw passes at is in cc) in
        ((0, omega arith, same), ap q (sym same) ∙ passes)
    at false fails rest =
        let more = rest (rw fails at is) in ((suc more.0.0, omega (arith, more.0.1), more.0.2), more.1)

-- where each node has a list, none is missing
not_missing : (ids : List ℕ) (seats : List SeatView) (i : ℕ) → first_missing ids seats ≡ Some i
    → ((k : ℕ) → Contains ids k → Contains (map (λ l. l.0) (map list_of seats)) k) → ⊥
not_missing ids seats i is all =
    let found = found_there (λ k. not (is_seated seats k)) ids i is in
    let seated : is_seated seats i ≡ true =
    sym (seated_has seats i) ∙ has-Contains (map (λ l. l.0) (map list_of seats)) i (all i found.0) in
    false≢true (sym (ap not seated) ∙ found.1)

-- where each node has a seat, none is missing
pub none_missing : (ids : List ℕ) (seats : List SeatView) → nodes_of seats ≡ ids → (i : ℕ)
    → first_missing ids seats ≡ Some i → ⊥
none_missing ids seats own i is =
    not_missing ids seats i is (λ k there. subst (λ ns. Contains ns k) (sym (lists_nodes seats ∙ own)) there)

-- seats that have a fault other than want of memory don't have the lists of the nodes
pub unclosed : {L : Type 0} (app : App L) (from_text : List ℕ → Option L) (b : BookView L) (mark : ℕ)
    (seats : List SeatView) (f : CloseFault) → IsUnclosed app from_text b mark seats f → f ≢ NoMemory
    → AreSeatLists app from_text b mark (map list_of seats) → ⊥
unclosed app from_text b mark seats (SeatMissing i) is other lists =
    not_missing b.config.graph.nodes seats i is lists.all
unclosed app from_text b mark seats (ListsDiffer i) (none, is) other lists =
    is.differs (told_there seats is.before is.seat is.rest is.split lists.told)
  where
    told_there : (seats before : List SeatView) (seat : SeatView) (rest : List SeatView) → seats ≡ before ++ seat ∷ rest
        → All (λ (l : NodeList). l.1 ≡ seat_list app from_text b mark l.0) (map list_of seats)
        → seat.receipts ≡ seat_list app from_text b mark seat.node
    told_there seats [] seat rest split told =
        subst (λ ss. All (λ (l : NodeList). l.1 ≡ seat_list app from_text b mark l.0) (map list_of ss)) split told 0
        (list_of seat) (omega arith)
    told_there [] (s ∷ before) seat rest split told = absurd (cc)
    told_there (t ∷ seats) (s ∷ before) seat rest split told =
        told_there seats before seat rest (cc) (λ k d short. told (suc k) d (omega (arith, short)))
unclosed app from_text b mark seats NoMemory is other lists = other refl

-- what holds anyway holds of an answer that is Ok
pub seated : {T : Type 0} {E : Type 0} {A : Type 0} (r : Result T E) → A → OnOk r A
seated (Ok u) holds = holds
seated (Err e) holds = tt

-- there is room for one list more
pub left_over : (lists : List NodeList) (s : SeatView) (rest seats : List SeatView)
    → lists ++ map list_of (s ∷ rest) ≡ map list_of seats → length lists < length seats
left_over lists s rest seats whole =
    omega (arith, ap length whole, length-append lists (map list_of (s ∷ rest)), length-map seats)

pub collected_first : (parts amount : ℕ) (lists : List NodeList) (rest seats : List SeatView) → parts ≡ 1 → amount ≡ 0
    → lists ≡ [] → rest ≡ seats → IsCollected parts amount lists rest seats
collected_first parts amount lists rest seats one none empty all = rw empty (record {
  has_parts = one;
  counts = none;
  whole = ap (map list_of) all;
})

pub collected_next : (parts amount more added : ℕ) (lists longer : List NodeList) (s : SeatView)
    (before rest seats : List SeatView) → before ≡ s ∷ rest → longer ≡ lists ++ list_of s ∷ [] → more ≡ parts + 1
    → added ≡ amount + length s.receipts → IsCollected parts amount lists before seats
    → IsCollected more added longer rest seats
collected_next parts amount more added lists longer s before rest seats step put one plus so_far =
    let whole : lists ++ map list_of (s ∷ rest) ≡ map list_of seats =
    subst (λ xs. lists ++ map list_of xs ≡ map list_of seats) step so_far.whole in
    rw put (record {
      has_parts = omega (arith, one, so_far.has_parts, length-append lists (list_of s ∷ []));
      counts = plus ∙ ap (λ k. k + length s.receipts) so_far.counts
          ∙ sym (sum_by-append (λ (l : NodeList). length l.1) lists (list_of s ∷ []) ∙ ap (λ k. sum_by
          (λ (l : NodeList). length l.1) lists + k) (omega arith));
      whole = append_assoc lists (list_of s ∷ []) (map list_of rest) ∙ whole;
    })

nothing : (xs : List SeatView) → length xs ≡ 0 → xs ≡ []
nothing [] none = refl
nothing (x ∷ xs) none = absurd (omega (arith, none))

pub collected_all : (parts amount : ℕ) (lists : List NodeList) (rest seats : List SeatView) → length lists ≡ length seats
    → IsCollected parts amount lists rest seats → lists ≡ map list_of seats
collected_all parts amount lists rest seats same so_far =
    let none : length rest ≡ 0 = omega (
      arith,
      same,
      ap length so_far.whole,
      length-append lists (map list_of rest),
      length-map rest,
      length-map seats,
    ) in
    sym (append-nil lists) ∙ (ap (λ xs. lists ++ map list_of xs) (sym (nothing rest none)) ∙ so_far.whole)
