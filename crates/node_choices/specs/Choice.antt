-- What a node might do: its events in a fixed order, and those that what it sees allows.
use Rattle.std.specs.Prelude.{ℕ, Bool, List, [], ◌∷◌, ◌++◌, map, filter, find, is_ok, Option, Some, None}
use Rattle.std.specs.List.{flat_map}
use Rattle.action_tables.specs.Numbers.{all_cases}
use Rattle.app_interface.specs.Application.{App}
use Rattle.reset_model.specs.declared.event.Event.{Event}
use Rattle.reset_model.specs.declared.event.Event.TheVariants.{Claim, Follow, Adopt, Request, Relay, Open, Join, Finish}
use Rattle.reset_model.specs.declared.event.Event.TheVariants.{Mend, Act}
use Rattle.reset_model.specs.Planned.{planned}
use Rattle.reset_model.specs.View.{NodeView, children_of}

-- the view allows the event
abbrev pub is_allowed : {L : Type 0} → App L → NodeView L → Event → Bool
is_allowed app v e = is_ok (planned app v e)

-- a case of the application: by itself, and then toward each neighbour, ascending
abbrev pub case_events : {L : Type 0} → NodeView L → ℕ → List Event
case_events v case = Act v.id case None ∷ map (λ n. Act v.id case (Some n.id)) v.near

-- the events of the node in their order, with these requests among them: none, or its own
abbrev pub events_with : {L : Type 0} → List Event → NodeView L → List Event
events_with requests v =
    (Claim v.id ∷ Follow v.id ∷ [])
    ++ map (λ n. Adopt v.id n.id) v.near
    ++ (Mend v.id ∷ Join v.id ∷ Finish v.id ∷ Open v.id ∷ requests)
    ++ map (λ n. Relay v.id n.id) (children_of v)
    ++ flat_map (case_events v) all_cases

-- what the node might do by itself: it asks for no reset
abbrev pub choices : {L : Type 0} → NodeView L → List Event
choices v = events_with [] v

-- the first of these that the view allows
abbrev pub next_of : {L : Type 0} → App L → NodeView L → Option Event
next_of app v = find (is_allowed app v) (choices v)

-- what may happen at the node: it may be asked for a reset too
abbrev pub candidates : {L : Type 0} → NodeView L → List Event
candidates v = events_with (Request v.id ∷ []) v

-- those of them that the view allows
abbrev pub allowed_events : {L : Type 0} → App L → NodeView L → List Event
allowed_events app v = filter (is_allowed app v) (candidates v)
