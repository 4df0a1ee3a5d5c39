-- How many requests the receipts of a seat are of.
use Rattle.std.proofs.Common.{◌≡◌, ℕ, ◌+◌, Bool, true, false, List, [], ◌∷◌, ◌++◌, length, filter, find, map}
use Rattle.std.proofs.Common.{IfSome, Option, Some, cond, ap, sym, subst, refl, arith, ◌∙◌}
use Rattle.std.specs.List.{AllByRecursion, flat_map}
use Rattle.std.proofs.lemmas.List.{length-append}
use Rattle.std.proofs.lemmas.List.Elements.{filter-append, recursion_from_All}
use Rattle.action_tables.specs.Numbers.{all_cases}
use Rattle.app_interface.specs.Application.{App}
use Rattle.reset_model.specs.declared.event.Event.{Event}
use Rattle.reset_model.specs.declared.event.Event.TheVariants.{Act, Adopt, Claim, Finish, Follow, Join, Mend, Open, Relay}
use Rattle.reset_model.specs.declared.event.Event.TheVariants.{Request}
use Rattle.reset_model.specs.Progress.{is_request}
use Rattle.reset_model.specs.View.{NodeView, children_of, view_of}
use Rattle.node_choices.specs.Choice.{case_events, choices, is_allowed, next_of}
use Rattle.history.specs.declared.entry.Receipt.{Receipt}
use Rattle.history.specs.Book.{BookView}
use Rattle.node_threads.specs.Requests.{request_count}
use Rattle.node_threads.specs.Seats.{SeatView, with_receipt}
use Rattle.node_threads.specs.Turns.{AddsTurns, IsTurn}

module _ {X : Type 0} (Q : X → Type 0) where
  each_map : {Y : Type 0} (f : Y → X) → ((y : Y) → Q (f y)) → (ys : List Y) → AllByRecursion Q (map f ys)
  each_map f is [] = tt
  each_map f is (y ∷ ys) = (is y, each_map f is ys)

  each_append : (xs ys : List X) → AllByRecursion Q xs → AllByRecursion Q ys → AllByRecursion Q (xs ++ ys)
  each_append [] ys some more = more
  each_append (x ∷ xs) ys some more = (some.0, each_append xs ys some.1 more)

  each_flat_map : {Y : Type 0} (f : Y → List X) → ((y : Y) → AllByRecursion Q (f y)) → (ys : List Y)
      → AllByRecursion Q (flat_map f ys)
  each_flat_map f is [] = tt
  each_flat_map f is (y ∷ ys) = each_append (f y) (flat_map f ys) (is y) (each_flat_map f is ys)

  same_some : (x y : X) → Some y ≡ Some x → Q y → Q x
  same_some x y same is = subst (λ o. IfSome o Q) same is

  found_here : (p : X → Bool) (x y : X) (xs : List X) (b : Bool) → p y ≡ b → Q y → (find p xs ≡ Some x → Q x)
      → find p (y ∷ xs) ≡ Some x → Q x
  found_here p x y xs true is here rest found = same_some x y (rw is at found) here
  found_here p x y xs false is here rest found = rest (rw is at found)

  -- the first that passes is as each of them is
  found : (p : X → Bool) (xs : List X) (x : X) → AllByRecursion Q xs → find p xs ≡ Some x → Q x
  found p [] x each is = absurd (cc)
  found p (y ∷ ys) x each is = found_here p x y ys (p y) refl each.0 (found p ys x each.1) is

abbrev pub AsksNot : Event → Type 0
AsksNot e = is_request e ≡ false

none_asks : {L : Type 0} (v : NodeView L) → AllByRecursion AsksNot (choices v)
none_asks v =
    let own_first : List Event = Claim v.id ∷ Follow v.id ∷ [] in
    let adoptions : List Event = map (λ n. Adopt v.id n.id) v.near in
    let own_next : List Event = Mend v.id ∷ Join v.id ∷ Finish v.id ∷ Open v.id ∷ [] in
    let relays : List Event = map (λ n. Relay v.id n.id) (children_of v) in
    let cases : (case : ℕ) → AllByRecursion AsksNot (case_events v case) =
    λ case. (refl, each_map AsksNot (λ n. Act v.id case (Some n.id)) (λ n. refl) v.near) in
    each_append AsksNot (((own_first ++ adoptions) ++ own_next) ++ relays) (flat_map (case_events v) all_cases)
    (each_append AsksNot ((own_first ++ adoptions) ++ own_next) relays
    (each_append AsksNot (own_first ++ adoptions) own_next
    (each_append AsksNot own_first adoptions (refl, (refl, tt))
    (each_map AsksNot (λ n. Adopt v.id n.id) (λ n. refl) v.near))
    (refl, (refl, (refl, (refl, tt)))))
    (each_map AsksNot (λ n. Relay v.id n.id) (λ n. refl) (children_of v)))
    (each_flat_map AsksNot (case_events v) cases all_cases)

-- what a node does by itself is no request
pub next_asks_not : {L : Type 0} (app : App L) (v : NodeView L) (e : Event) → next_of app v ≡ Some e → AsksNot e
next_asks_not app v e is = found AsksNot (is_allowed app v) (choices v) e (none_asks v) is

counts_none : (receipts : List Receipt) → AllByRecursion (λ r. AsksNot r.event) receipts → request_count receipts ≡ 0
counts_none [] each = refl
counts_none (r ∷ rs) each = rw each.0 (counts_none rs each.1)

turns_ask_not : {L : Type 0} (app : App L) (from_text : List ℕ → Option L) (first : BookView L) (i : ℕ)
    (receipts : List Receipt) → AllByRecursion (IsTurn app from_text first i) receipts
    → AllByRecursion (λ r. AsksNot r.event) receipts
turns_ask_not app from_text first i [] turns = tt
turns_ask_not app from_text first i (r ∷ rs) turns =
    (next_asks_not app (view_of app turns.0.book.config i) r.event turns.0.such.0, turns_ask_not app from_text first i rs turns.1)

count_append : (some more : List Receipt) → request_count (some ++ more) ≡ request_count some + request_count more
count_append some more =
    ap length (filter-append (λ (r : Receipt). is_request r.event) some more)
    ∙ length-append (filter (λ (r : Receipt). is_request r.event) some) (filter (λ (r : Receipt). is_request r.event) more)

-- turns add no request
pub turns_add_none : {L : Type 0} (app : App L) (from_text : List ℕ → Option L) (first : BookView L) (i : ℕ)
    (old new : List Receipt) → AddsTurns app from_text first i old new → request_count new ≡ request_count old
turns_add_none app from_text first i old new turns =
    let none : request_count turns.more ≡ 0 =
    counts_none turns.more (turns_ask_not app from_text first i turns.more
    (recursion_from_All (IsTurn app from_text first i) turns.more turns.turns)) in
    omega (arith, ap request_count turns.added, count_append old turns.more, none)

-- a request adds one
pub request_adds_one : (old new : SeatView) (receipt : Receipt) (i : ℕ) → new ≡ with_receipt old receipt
    → receipt.event ≡ Request i → request_count new.receipts ≡ request_count old.receipts + 1
request_adds_one old new receipt i same asks =
    let one : request_count (receipt ∷ []) ≡ 1 =
    subst (λ e. length (cond (is_request e) (receipt ∷ []) []) ≡ 1) (sym asks) refl in
    omega (arith, ap (λ s. request_count s.receipts) same, count_append old.receipts (receipt ∷ []), one)
