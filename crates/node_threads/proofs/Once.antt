-- Each entry after the mark stands in one of the lists of a closed sharing, once.
use Rattle.std.proofs.Common.{◌≡◌, ◌≢◌, ℕ, zero, suc, ◌+◌, ◌-◌, ◌<◌, ◌≤◌, ◌==◌, ◌&&◌, cond, ◌⊎◌, inl, inr, Bool, true, false, not}
use Rattle.std.proofs.Common.{All, List, [], ◌∷◌, ◌++◌, Option, Some, None, Ok, Err, length, map, filter, drop}
use Rattle.std.proofs.Common.{nat_lt, subst, sym, ap, ◌∙◌, refl, arith}
use Rattle.std.specs.List.{list_all}
use Rattle.std.specs.Option.{option_and_then, option_map_or}
use Rattle.std.specs.List.Sorted.{IsStrictlyIncreasing}
use Rattle.std.proofs.lemmas.Bool.{eq-eqb, lt-ltb}
use Rattle.std.proofs.lemmas.Bool.Decides.{eqb_tells}
use Rattle.std.proofs.lemmas.List.{length-append}
use Rattle.std.proofs.lemmas.List.Elements.{filter-append}
use Rattle.std.proofs.lemmas.List.Sums.{sum_by-cons}
use Rattle.topology.specs.Graph.{has, is_node}
use Rattle.topology.proofs.Membership.{Contains-has, has-Contains}
use Rattle.app_interface.specs.Application.{App}
use Rattle.reset_model.specs.declared.event.Event.{Event}
use Rattle.reset_model.specs.declared.step.Reply.{Reply}
use Rattle.reset_model.specs.declared.step.StepRefusal.TheVariants.{StrangeNode}
use Rattle.reset_model.specs.Configuration.{Configuration}
use Rattle.reset_model.specs.Planned.{Outcome, outcome_of}
use Rattle.reset_model.specs.Steps.{event_node}
use Rattle.history.specs.declared.entry.Entry.{Entry}
use Rattle.history.specs.declared.entry.Entry.TheVariants.{Step, Disturbed}
use Rattle.history.specs.declared.entry.Receipt.{Receipt}
use Rattle.history.specs.Entries.{entered, left_by_step, replayed}
use Rattle.history.specs.Book.{BookView}
use Rattle.node_threads.specs.Closed.{AreSeatLists, NodeList, tells_at}
use Rattle.node_threads.specs.Locked.{IsContinued, is_step}
use Rattle.node_threads.specs.Seats.{outcome_receipts, receipts_from}
use Rattle.node_threads.proofs.Few.{filter_no, filter_swap, filter_yes, one_each}
use Rattle.node_threads.proofs.Entering.{outcome_graph}
use Rattle.node_threads.proofs.Telling.{other_number}

-- ---- each entry once

-- of these receipts one is of this position, and is of one of these nodes
record IsToldOnce (nodes : List ℕ) (p : ℕ) (receipts : List Receipt) : Type 0 where
  receipt : Receipt
  only : filter (λ r. r.position == p) receipts ≡ receipt ∷ []
  place : receipt.position ≡ p
  node : has nodes (event_node receipt.event) ≡ true

module _ {L : Type 0} (app : App L) (from_text : List ℕ → Option L) where
  -- receipts are of later positions than the entries before
  no_more : (c : Configuration L) (before : ℕ) (es : List Entry) (p : ℕ) → p ≤ before
      → filter (λ r. r.position == p) (receipts_from app from_text c before es) ≡ []
  unfolding receipts_from
  no_more c before [] p within = refl
  no_more c before (Disturbed f ∷ es) p within =
      elim (entered app from_text c (Disturbed f)) as (λ o. filter (λ r. r.position == p)
      (option_map_or (λ after. receipts_from app from_text after (before + 1) es) o []) ≡ []) [
        | None ↦ refl
        | Some after ↦ no_more after (before + 1) es p (omega (arith, within))
      ]
  no_more c before (Step e ∷ es) p within =
      elim (outcome_of app c e) as (λ o. filter (λ r. r.position == p) (outcome_receipts e (before + 1) o
      ++ option_map_or (λ after. receipts_from app from_text after (before + 1) es) (left_by_step o) []) ≡ []) [
        | Err f ↦ refl
        | Ok done ↦ filter_no (λ r. r.position == p) (record { position = before + 1; event = e; reply = done.1 }) _
            (other_number (before + 1) p (omega (arith, within)))
            ∙ no_more done.0 (before + 1) es p (omega (arith, within))
      ]

  -- steps keep the graph
  kept_by : (c left : Configuration L) (e : Event) (es : List Entry) (o : Outcome L) → outcome_of app c e ≡ o
      → ((after : Configuration L) → replayed app from_text after es ≡ Some left → left.graph ≡ after.graph)
      → option_and_then (λ after. replayed app from_text after es) (left_by_step o) ≡ Some left → left.graph ≡ c.graph
  kept_by c left e es (Err f) is later played = absurd (cc)
  kept_by c left e es (Ok done) is later played = later done.0 played ∙ outcome_graph app c e done.0 done.1 is

  kept_graph : (c left : Configuration L) (es : List Entry) → replayed app from_text c es ≡ Some left
      → list_all is_step es ≡ true → left.graph ≡ c.graph
  unfolding replayed
  kept_graph c left [] played steps = (let same : c ≡ left = cc in ap (λ k. k.graph) (sym same))
  kept_graph c left (Disturbed f ∷ es) played steps = absurd (cc)
  kept_graph c left (Step e ∷ es) played steps =
      kept_by c left e es (outcome_of app c e) refl (λ after rest. kept_graph after left es rest steps) played

  -- what isn't refused is done at a node
  node_of : (there : Bool) (w : Outcome L) (done : Configuration L × Reply)
      → cond (not there) (Err StrangeNode) w ≡ Ok done → there ≡ true
  node_of true w done out = refl
  node_of false w done out = absurd (cc)

  told_first_step : (c left : Configuration L) (before : ℕ) (e : Event) (es : List Entry) (o : Outcome L)
      → outcome_of app c e ≡ o → list_all is_step es ≡ true
      → option_and_then (λ after. replayed app from_text after es) (left_by_step o) ≡ Some left
      → IsToldOnce left.graph.nodes (before + 1) (outcome_receipts e (before + 1) o
      ++ option_map_or (λ after. receipts_from app from_text after (before + 1) es) (left_by_step o) [])
  told_first_step c left before e es (Err f) is steps played = absurd (cc)
  told_first_step c left before e es (Ok done) is steps played =
      let r : Receipt = record { position = before + 1; event = e; reply = done.1 } in
      let same : left.graph ≡ c.graph =
      kept_graph done.0 left es played steps ∙ outcome_graph app c e done.0 done.1 is in
      record {
        receipt = r;
        only = filter_yes (λ r. r.position == before + 1) r _ (eq-eqb (before + 1) (before + 1) refl)
            ∙ ap (λ rs. r ∷ rs) (no_more done.0 (before + 1) es (before + 1) (omega arith));
        place = refl;
        node = ap (λ g. has g.nodes (event_node e)) same
            ∙ node_of (is_node c.graph (event_node e)) _ done is;
      }

  -- one receipt more, of an earlier position
  told_later : (nodes : List ℕ) (p q : ℕ) (r : Receipt) (rs : List Receipt) → r.position < p → p ≡ q
      → IsToldOnce nodes p rs → IsToldOnce nodes q (r ∷ rs)
  told_later nodes p q r rs before at once = record {
    receipt = once.receipt;
    only = subst (λ n. filter (λ r. r.position == n) (r ∷ rs) ≡ once.receipt ∷ []) at
        (filter_no (λ r. r.position == p) r rs (apart r.position p before) ∙ once.only);
    place = once.place ∙ at;
    node = once.node;
  }
    where
      apart : (a b : ℕ) → a < b → (a == b) ≡ false
      apart a b less = at_tests (eqb_tells a b)
        where
          at_tests : (((a == b) ≡ true) × (a ≡ b)) ⊎ (((a == b) ≡ false) × (a ≢ b)) → (a == b) ≡ false
          at_tests (inl same) = absurd (omega (arith, same.1, less))
          at_tests (inr other) = other.0

  once : (c left : Configuration L) (before : ℕ) (es : List Entry) (k : ℕ) → replayed app from_text c es ≡ Some left
      → k < length es → list_all is_step (drop k es) ≡ true
      → IsToldOnce left.graph.nodes (before + 1 + k) (receipts_from app from_text c before es)
  unfolding replayed receipts_from
  once c left before [] k played short steps = absurd (omega (arith, short))
  once c left before (Disturbed f ∷ es) zero played short steps = absurd (cc)
  once c left before (Step e ∷ es) zero played short steps =
      subst (λ p. IsToldOnce left.graph.nodes p (receipts_from app from_text c before (Step e ∷ es))) (omega arith)
      (told_first_step c left before e es (outcome_of app c e) refl steps played)
  once c left before (Disturbed f ∷ es) (suc k) played short steps =
      elim (entered app from_text c (Disturbed f)) as (λ o. option_and_then (λ after. replayed app from_text after es) o
      ≡ Some left → IsToldOnce left.graph.nodes (before + 1 + suc k)
      (option_map_or (λ after. receipts_from app from_text after (before + 1) es) o [])) [
        | None ↦ λ none. absurd (cc)
        | Some after ↦ λ rest. subst (λ p. IsToldOnce left.graph.nodes p (receipts_from app from_text after (before + 1)
            es)) (omega arith) (once after left (before + 1) es k rest (omega (arith, short)) steps)
      ] played
  once c left before (Step e ∷ es) (suc k) played short steps =
      elim (outcome_of app c e) as (λ o. option_and_then (λ after. replayed app from_text after es) (left_by_step o)
      ≡ Some left → IsToldOnce left.graph.nodes (before + 1 + suc k) (outcome_receipts e (before + 1) o
      ++ option_map_or (λ after. receipts_from app from_text after (before + 1) es) (left_by_step o) [])) [
        | Err f ↦ λ none. absurd (cc)
        | Ok done ↦ λ rest. told_later left.graph.nodes (before + 1 + 1 + k) (before + 1 + suc k)
            (record { position = before + 1; event = e; reply = done.1 }) _ (omega arith) (omega arith)
            (once done.0 left (before + 1) es k rest (omega (arith, short)) steps)
      ] played

-- ---- the lists together

tail_steps : (es : List Entry) (m k : ℕ) → m ≤ k → list_all is_step (drop m es) ≡ true
    → list_all is_step (drop k es) ≡ true
tail_steps [] m k less steps = nothing m k steps
  where
    nothing : (m k : ℕ) → list_all is_step (drop m []) ≡ true → list_all is_step (drop k []) ≡ true
    nothing m zero steps = refl
    nothing m (suc k) steps = refl
tail_steps (e ∷ es) zero zero less steps = steps
tail_steps (e ∷ es) zero (suc k) less steps = tail_steps es 0 k (omega arith) (second (is_step e) _ steps)
  where
    second : (a b : Bool) → (a && b) ≡ true → b ≡ true
    second true b both = both
    second false b both = absurd (cc)
tail_steps (e ∷ es) (suc m) zero less steps = absurd (omega (arith, less))
tail_steps (e ∷ es) (suc m) (suc k) less steps = tail_steps es m k (omega (arith, less)) steps

-- where one receipt is of this position, a node's list has it once, or not at all
module _ (mark p : ℕ) (receipts : List Receipt) (r : Receipt) (after : nat_lt mark r.position ≡ true)
    (only : filter (λ r. r.position == p) receipts ≡ r ∷ []) where
  abbrev Of : ℕ → List Receipt → List Receipt
  Of i rs = filter (λ r. event_node r.event == i) rs

  own : (i : ℕ) → filter (λ r. r.position == p) (Of i (filter (λ r. nat_lt mark r.position) receipts)) ≡ Of i (r ∷ [])
  own i =
      let late = λ (r : Receipt). nat_lt mark r.position in
      let here = λ (r : Receipt). r.position == p in
      filter_swap here (λ r. event_node r.event == i) (filter late receipts)
      ∙ ap (Of i) (filter_swap here late receipts ∙ (ap (filter late) only ∙ filter_yes late r [] after))

  count : (i : ℕ) → length (Of i (r ∷ [])) ≡ length (filter (λ k. k == event_node r.event) (i ∷ []))
  count i = at (eqb_tells (event_node r.event) i) (eqb_tells i (event_node r.event))
    where
      n : ℕ
      n = event_node r.event

      at : (((n == i) ≡ true) × (n ≡ i)) ⊎ (((n == i) ≡ false) × (n ≢ i))
          → (((i == n) ≡ true) × (i ≡ n)) ⊎ (((i == n) ≡ false) × (i ≢ n))
          → length (Of i (r ∷ [])) ≡ length (filter (λ k. k == n) (i ∷ []))
      at (inl same) (inl back) =
          ap length (filter_yes (λ r. event_node r.event == i) r [] same.0)
          ∙ sym (ap length (filter_yes (λ k. k == n) i [] back.0))
      at (inl same) (inr back) = absurd (back.1 (sym same.1))
      at (inr other) (inl back) = absurd (other.1 (sym back.1))
      at (inr other) (inr back) =
          ap length (filter_no (λ r. event_node r.event == i) r [] other.0)
          ∙ sym (ap length (filter_no (λ k. k == n) i [] back.0))

  in_all : (lists : List NodeList)
      → All (λ l. l.1 ≡ Of l.0 (filter (λ r. nat_lt mark r.position) receipts)) lists
      → tells_at lists p ≡ length (filter (λ k. k == event_node r.event) (map (λ l. l.0) lists))
  in_all [] all = refl
  in_all (l ∷ ls) all =
      let f = λ (l : NodeList). length (filter (λ r. r.position == p) l.1) in
      let q = λ (k : ℕ). k == event_node r.event in
      let here : f l ≡ length (filter q (l.0 ∷ [])) =
      ap (λ rs. length (filter (λ r. r.position == p) rs)) (all 0 l (omega arith)) ∙ (ap length (own l.0) ∙ count l.0) in
      let rest : tells_at ls p ≡ length (filter q (map (λ l. l.0) ls)) =
      in_all ls (λ k d short. all (suc k) d (omega (arith, short))) in
      let split : length (filter q (l.0 ∷ map (λ l. l.0) ls))
      ≡ length (filter q (l.0 ∷ [])) + length (filter q (map (λ l. l.0) ls)) =
      ap length (filter-append q (l.0 ∷ []) (map (λ l. l.0) ls))
      ∙ length-append (filter q (l.0 ∷ [])) (filter q (map (λ l. l.0) ls)) in
      omega (arith, sum_by-cons f l ls, here, rest, split)

length-nodes : (lists : List NodeList) → length (map (λ l. l.0) lists) ≡ length lists
length-nodes [] = refl
length-nodes (l ∷ ls) = omega (arith, length-nodes ls)

pub closed_once : {L : Type 0} (app : App L) (from_text : List ℕ → Option L) (first b : BookView L)
    (lists : List NodeList) → IsContinued app from_text first b
    → AreSeatLists app from_text b (length first.entries) lists → IsStrictlyIncreasing b.config.graph.nodes
    → length b.config.graph.nodes ≡ length lists → (p : ℕ) → length first.entries < p → p ≤ length b.entries
    → tells_at lists p ≡ 1
closed_once app from_text first b lists continued told up many p after within =
    let mark = length first.entries in
    let nodes = b.config.graph.nodes in
    let receipts = receipts_from app from_text b.opening 0 b.entries in
    let steps = tail_steps b.entries mark (p - 1) (omega (arith, after)) continued.steps in
    let same : 0 + 1 + (p - 1) ≡ p = omega (arith, after) in
    let one : IsToldOnce nodes p receipts =
    subst (λ n. IsToldOnce nodes n receipts) same (once app from_text b.opening b.config 0 b.entries (p - 1)
    continued.book.replay (omega (arith, after, within)) steps) in
    let late : nat_lt mark one.receipt.position ≡ true =
    lt-ltb mark one.receipt.position (subst (λ n. mark < n) (sym one.place) after) in
    in_all mark p receipts one.receipt late one.only lists told.told
    ∙ one_each nodes (map (λ l. l.0) lists) up (λ i there. has-Contains (map (λ l. l.0) lists) i (told.all i
    (Contains-has nodes i there))) (length-nodes lists ∙ sym many) (event_node one.receipt.event) one.node
