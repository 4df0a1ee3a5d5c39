-- How many requests a closed book has since it was shared.
use Rattle.std.proofs.Common.{◌≡◌, ◌+◌, ◌≤◌, ◌==◌, ◌&&◌, ℕ, zero, suc, Bool, true, false, cond, All, List, []}
use Rattle.std.proofs.Common.{IfOk, Result, Ok, Err, ◌∷◌, ◌++◌, drop, filter, length, map, nat_lt, Option, ap, refl, subst, sym, arith, ◌∙◌}
use Rattle.std.proofs.lemmas.Bool.{le-ltb, lt-ltb}
use Rattle.std.proofs.lemmas.List.{length-append}
use Rattle.std.proofs.lemmas.List.Elements.{All-contains, All-map, filter-append}
use Rattle.app_interface.specs.Application.{App}
use Rattle.reset_model.specs.Progress.{is_request}
use Rattle.reset_model.specs.Steps.{event_node}
use Rattle.history.specs.Book.{BookView, IsBook}
use Rattle.history.specs.Reports.{reports_from}
use Rattle.history.specs.declared.entry.Entry.{Entry}
use Rattle.history.specs.declared.entry.Entry.TheVariants.{Step, Disturbed}
use Rattle.history.specs.declared.entry.Receipt.{Receipt}
use Rattle.history.specs.declared.entry.Report.{Report}
use Rattle.node_threads.specs.Closed.{IsClosed, NodeList, list_of}
use Rattle.node_threads.specs.Requests.{AreAsked, AsksAtMost, asks, request_count, requests_at, requests_in}
use Rattle.node_threads.specs.Seats.{SeatView, of_node, seat_list}
use Rattle.node_threads.specs.Told.{left_by, receipts_told, reply_told}
use Rattle.node_threads.specs.declared.tasks.Task.{Task}
use Rattle.node_threads.proofs.Telling.{told_receipts}

module _ (mark i : ℕ) where
  -- how many of these receipts, after the mark, are of requests of the node i
  abbrev count : List Receipt → ℕ
  count receipts = request_count (of_node i (filter (λ r. nat_lt mark r.position) receipts))

  count_append : (some more : List Receipt) → count (some ++ more) ≡ count some + count more
  count_append some more =
      let after = λ (r : Receipt). nat_lt mark r.position in
      let own = λ (r : Receipt). event_node r.event == i in
      let request = λ (r : Receipt). is_request r.event in
      ap (λ rs. request_count (of_node i rs)) (filter-append after some more)
      ∙ (ap request_count (filter-append own (filter after some) (filter after more))
      ∙ (ap length (filter-append request (filter own (filter after some)) (filter own (filter after more)))
      ∙ length-append (filter request (filter own (filter after some))) (filter request (filter own (filter after more)))))

  one_after : (r : Receipt) (a b c : Bool) → nat_lt mark r.position ≡ a → a ≡ true → (event_node r.event == i) ≡ b
      → is_request r.event ≡ c → count (r ∷ []) ≡ cond (c && b) 1 0
  one_after r true true true after is own asked = rw after (rw own (rw asked refl))
  one_after r true true false after is own asked = rw after (rw own (rw asked refl))
  one_after r true false true after is own asked = rw after (rw own refl)
  one_after r true false false after is own asked = rw after (rw own refl)
  one_after r false b c after is own asked = absurd (cc)

  none_before : (r : Receipt) → nat_lt mark r.position ≡ false → count (r ∷ []) ≡ 0
  none_before r before = rw before refl

  one_more : (b : Bool) (e : Entry) (es : List Entry) → asks i e ≡ b → requests_in (e ∷ es) i ≡ cond b 1 0 + requests_in es i
  one_more true e es is = rw is (omega arith)
  one_more false e es is = rw is (omega arith)

  -- of entries after the mark
  count_past : (rs : List Report) (n : ℕ) (es : List Entry) → mark ≤ n → count (receipts_told rs n es) ≡ requests_in es i
  count_past rs n [] past = refl
  count_past rs n (Step e ∷ es) past =
      let r : Receipt = record { position = n + 1; event = e; reply = reply_told rs (n + 1) } in
      let here = one_after r true (event_node e == i) (is_request e) (lt-ltb mark (n + 1) (omega (arith, past))) refl refl refl in
      let rest = count_past (left_by rs (n + 1) (Step e)) (n + 1) es (omega (arith, past)) in
      omega (
        arith,
        count_append (r ∷ []) (receipts_told (left_by rs (n + 1) (Step e)) (n + 1) es),
        here,
        rest,
        one_more (is_request e && event_node e == i) (Step e) es refl,
      )
  count_past rs n (Disturbed f ∷ es) past = count_past rs (n + 1) es (omega (arith, past))

  -- of all entries
  count_all : (rs : List Report) (n left : ℕ) (es : List Entry) → n + left ≡ mark
      → count (receipts_told rs n es) ≡ requests_in (drop left es) i
  count_all rs n zero es at = count_past rs n es (omega (arith, at))
  count_all rs n (suc left) [] at = refl
  count_all rs n (suc left) (Step e ∷ es) at =
      let r : Receipt = record { position = n + 1; event = e; reply = reply_told rs (n + 1) } in
      let rest = count_all (left_by rs (n + 1) (Step e)) (n + 1) left es (omega (arith, at)) in
      omega (
        arith,
        count_append (r ∷ []) (receipts_told (left_by rs (n + 1) (Step e)) (n + 1) es),
        none_before r (le-ltb mark (n + 1) (omega (arith, at))),
        rest,
      )
  count_all rs n (suc left) (Disturbed f ∷ es) at = count_all rs (n + 1) left es (omega (arith, at))

-- the seat list of a node has a request for each that the node's entries have
pub listed_requests : {L : Type 0} (app : App L) (from_text : List ℕ → Option L) (b : BookView L) (mark i : ℕ)
    → IsBook app from_text b
    → request_count (seat_list app from_text b mark i) ≡ requests_in (drop mark b.entries) i
listed_requests app from_text b mark i book =
    ap (count mark i) (sym (told_receipts app from_text b.opening b.config [] b.entries 0 refl book.replay))
    ∙ count_all mark i (reports_from app from_text b.opening [] b.entries) 0 mark b.entries (omega arith)

-- lists of a closed sharing whose nodes asked for no more than the task lets them are of a book that does so
pub asks_at_most : {L : Type 0} (app : App L) (from_text : List ℕ → Option L) (first b : BookView L)
    (lists : List NodeList) (task : Task) → IsClosed app from_text first b lists → AreAsked task lists
    → AsksAtMost task first b
asks_at_most app from_text first b lists task closed asked = λ i node.
    All-contains Few (map (λ l. l.0) lists) i (All-map Few (λ (l : NodeList). l.0) lists each) (closed.seats.all i node)
  where
    mark : ℕ
    mark = length first.entries

    Few : ℕ → Type 0
    Few i = requests_in (drop mark b.entries) i ≤ requests_at task i

    each : All (λ l. Few l.0) lists
    each k d low =
        let same = ap request_count (closed.seats.told k d low) ∙ listed_requests app from_text b mark _ closed.continued.book in
        omega (arith, same, asked k d low)

-- the same of what a run closes
pub run_asks : {L T E : Type 0} (app : App L) (from_text : List ℕ → Option L) (first : BookView L) (task : Task)
    (seats : List SeatView) (book : T → BookView L) (lists : T → List NodeList) (r : Result T E)
    → IfOk r (λ o. IsClosed app from_text first (book o) (lists o)) → IfOk r (λ o. lists o ≡ map list_of seats)
    → AreAsked task (map list_of seats) → IfOk r (λ o. AsksAtMost task first (book o))
run_asks app from_text first task seats book lists (Ok o) closed same asked =
    asks_at_most app from_text first (book o) (lists o) task closed (subst (AreAsked task) (sym same) asked)
run_asks app from_text first task seats book lists (Err e) closed same asked = tt
