-- Drawn runs: which events and faults happen to a book, as a generator of random words draws them.
use Rattle.std.specs.Prelude.{ℕ, zero, suc, ◌%◌, nat_lt, if◌then◌else◌, is_ok, filter, length, slice_get}
use Rattle.std.specs.Prelude.{List, [], ◌∷◌, Option, Some, None, Result, Ok, Err}
use Rattle.std.specs.Option.{option_and_then}
use Rattle.rand_pcg.specs.Lcg.{Lcg}
use Rattle.rand_pcg.specs.Pcg.{pcg32}
use Rattle.app_interface.specs.Application.{App}
use Rattle.reset_model.specs.declared.event.Event.{Event}
use Rattle.reset_model.specs.Configuration.{Configuration}
use Rattle.reset_model.specs.Planned.{outcome_of}
use Rattle.reset_model.specs.View.{view_of}
use Rattle.reset_machine.specs.Enabled.{ready_of}
use Rattle.node_choices.specs.Choice.{candidates}
use Rattle.fault_inject.specs.declared.fault.Fault.{Fault}
use Rattle.fault_inject.specs.Drawn.{drawn_fault, next_words, seeded}
use Rattle.history.specs.Book.{BookView, booked, disturbed_book}

-- ---- what may be drawn

-- the events that are enabled at i: those of its candidates that are not refused
abbrev pub enabled_events : {L : Type 0} → App L → Configuration L → ℕ → List Event
enabled_events app c i = filter (λ e. is_ok (outcome_of app c e)) (candidates (view_of app c i))

-- these, or all where there are none of them
abbrev pub or_all : List ℕ → List ℕ → List ℕ
or_all all [] = all
or_all all (i ∷ ready) = i ∷ ready

-- the nodes of which one is drawn: those that have something to do, and all that are up where none has
abbrev pub drawable_nodes : {L : Type 0} → App L → Configuration L → List ℕ
drawable_nodes app c = or_all c.graph.nodes (ready_of app c)

-- what a word draws of a list, if there is anything in it
abbrev pub drawn_of : {X : Type 0} → List X → ℕ → Option X
drawn_of xs word = slice_get xs (word % length xs)

-- the event that two words draw: the first its node, if any is up, the second which of those that are enabled there, if
-- any is
unfoldable pub drawn_by : {L : Type 0} → App L → Configuration L → ℕ → ℕ → Option Event
drawn_by app c for_node for_event =
    option_and_then (λ node. drawn_of (enabled_events app c node) for_event) (drawn_of (drawable_nodes app c) for_node)

-- ---- a step

-- the book after what was tried on it: as it was, where that is refused
abbrev pub left_after : {L X E : Type 0} → BookView L → Result (BookView L × X) E → BookView L
left_after b (Ok done) = done.0
left_after b (Err f) = b

-- the book after an event, if one was drawn
abbrev pub after_event : {L : Type 0} → App L → BookView L → Option Event → BookView L
after_event app b None = b
after_event app b (Some e) = left_after b (booked app b e)

-- the book after a fault
abbrev pub after_fault : {L : Type 0} → App L → (List ℕ → Option L) → BookView L → Fault → BookView L
after_fault app from_text b f = left_after b (disturbed_book app from_text b f)

-- the next two words draw an event
unfoldable pub event_step : {L : Type 0} → App L → BookView L → Lcg → BookView L × Lcg
event_step app b generator =
    let for_node = pcg32 generator in
    let for_event = pcg32 for_node.1 in
    (after_event app b (drawn_by app b.config for_node.0 for_event.0), for_event.1)

-- the next five words draw a fault
unfoldable pub fault_step : {L : Type 0} → App L → (List ℕ → Option L) → BookView L → Lcg → BookView L × Lcg
fault_step app from_text b generator =
    let words = next_words generator in
    (after_fault app from_text b (drawn_fault b.config.graph.ids words.0), words.1)

-- a step: the next word makes it one of these, a fault in so many of a thousand cases
unfoldable pub drawn_step : {L : Type 0} → App L → (List ℕ → Option L) → ℕ → BookView L → Lcg → BookView L × Lcg
drawn_step app from_text faults b generator =
    let kind = pcg32 generator in
    if nat_lt (kind.0 % 1000) faults then fault_step app from_text b kind.1 else event_step app b kind.1

-- ---- a run

-- the book and the generator after so many steps
unfoldable pub drawn_steps : {L : Type 0} → App L → (List ℕ → Option L) → ℕ → ℕ → BookView L → Lcg → BookView L × Lcg
drawn_steps app from_text faults zero b generator = (b, generator)
drawn_steps app from_text faults (suc n) b generator =
    let before = drawn_steps app from_text faults n b generator in
    drawn_step app from_text faults before.0 before.1

-- the book after so many steps, drawn by the generator that the number seeds
abbrev pub driven : {L : Type 0} → App L → (List ℕ → Option L) → ℕ → ℕ → ℕ → BookView L → BookView L
driven app from_text steps seed faults b = (drawn_steps app from_text faults steps b (seeded seed)).0
