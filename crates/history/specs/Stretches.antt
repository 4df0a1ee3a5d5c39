-- Stretches of a history in which no fault was done: what they do to the application, and what their reports mean.
use Rattle.std.specs.Prelude.{◌≡◌, ℕ, ◌+◌, ◌<◌, ◌≤◌, List, ◌∷◌, ◌++◌, map, length, Option, Some, None, Ok}
use Rattle.app_interface.specs.Application.{App}
use Rattle.topology.specs.Graph.{Graph}
use Rattle.reset_model.specs.declared.event.Event.{Event}
use Rattle.reset_model.specs.declared.event.Event.TheVariants.{Finish, Join, Open}
use Rattle.reset_model.specs.declared.step.Reply.{Reply}
use Rattle.reset_model.specs.declared.step.Reply.TheVariants.{Complete}
use Rattle.reset_model.specs.Completion.{JoinsOnce, is_open_at, times}
use Rattle.reset_model.specs.Configuration.{Configuration, local_of}
use Rattle.reset_model.specs.Planned.{outcome_of}
use Rattle.reset_model.specs.Sound.{IsComplete}
use Rattle.reset_model.specs.Steps.{event_node}
use Rattle.fault_inject.specs.declared.fault.Fault.{Fault}
use Rattle.history.specs.declared.entry.Entry.{Entry}
use Rattle.history.specs.declared.entry.Entry.TheVariants.{Step, Disturbed}
use Rattle.history.specs.declared.entry.Report.{Report}
use Rattle.history.specs.Entries.{replayed}

-- ---- stretches

-- the entries of events
abbrev pub steps : List Event → List Entry
steps events = map (λ e. Step e) events

-- a stretch of a history: the entries before it, its events, the entries after it, and the configurations where it
-- begins and where it ends
pub record Stretch (L : Type 0) : Type 0 where
  pub before : List Entry
  pub events : List Event
  pub rest : List Entry
  pub here : Configuration L
  pub left : Configuration L

-- it is a stretch of these entries: no fault comes between its events, and up to its end each entry is allowed where
-- it stands
pub record IsStretch {L : Type 0} (app : App L) (from_text : List ℕ → Option L) (opening : Configuration L)
    (es : List Entry) (s : Stretch L) : Type 0 where
  pub split : es ≡ s.before ++ (steps s.events ++ s.rest)
  pub begins : replayed app from_text opening s.before ≡ Some s.here
  pub ends : replayed app from_text s.here (steps s.events) ≡ Some s.left

-- the position is that of one of its events. Positions count from 1
abbrev pub IsIn : {L : Type 0} → Stretch L → ℕ → Type 0
IsIn s position = (length s.before < position) × (position ≤ length s.before + length s.events)

-- ---- reports

-- the entry at the position is the event's, which was allowed there, replied so and left this
pub record IsApplied {L : Type 0} (app : App L) (from_text : List ℕ → Option L) (opening : Configuration L)
    (es : List Entry) (position : ℕ) (event : Event) (reply : Reply) (left : Configuration L) : Type 0 where
  pub before : List Entry
  pub rest : List Entry
  pub here : Configuration L
  pub split : es ≡ before ++ Step event ∷ rest
  pub place : position ≡ length before + 1
  pub allowed : replayed app from_text opening before ≡ Some here
  pub outcome : outcome_of app here event ≡ Ok (left, reply)

-- the position of the latest opening at the node top among entries, where no fault came after it
pub data IsLatestOpening (top : ℕ) (entries : List Entry) : Option ℕ → Type 0 where
  latest : (before : List Entry) (since : List Event) → entries ≡ before ++ Step (Open top) ∷ steps since
      → times (is_open_at top) since ≡ 0 → IsLatestOpening top entries (Some (length before + 1))
  none_since : (before : List Entry) (fault : Fault) (since : List Event)
      → entries ≡ before ++ Disturbed fault ∷ steps since → times (is_open_at top) since ≡ 0
      → IsLatestOpening top entries None
  none : (since : List Event) → entries ≡ steps since → times (is_open_at top) since ≡ 0
      → IsLatestOpening top entries None

-- the report tells an event that completed a session, and the latest opening before it at the same node
pub record IsReport {L : Type 0} (app : App L) (from_text : List ℕ → Option L) (opening : Configuration L)
    (es : List Entry) (r : Report) : Type 0 where
  pub event : Event
  pub left : Configuration L
  pub told : IsApplied app from_text opening es r.finished event (Complete r.number) left
  pub opened : IsLatestOpening (event_node event) told.before r.opened

-- between these two positions the node top opened a session and finished it, nobody else of its component opened one,
-- each other node there joined it exactly once, and right after a node joined it had its start state
pub record IsJoined {L : Type 0} (app : App L) (from_text : List ℕ → Option L) (opening : Configuration L)
    (es : List Entry) (g : Graph) (top opened finished : ℕ) : Type 0 where
  pub before : List Entry
  pub between : List Event
  pub rest : List Entry
  pub split : es ≡ before ++ Step (Open top) ∷ (steps between ++ Step (Finish top) ∷ rest)
  pub opened_at : opened ≡ length before + 1
  pub finished_at : finished ≡ opened + length between + 1
  pub joins : JoinsOnce g top between
  pub restarts : (position i : ℕ) (reply : Reply) (left : Configuration L) → opened < position → position < finished
      → IsApplied app from_text opening es position (Join i) reply left → local_of app left i ≡ app.start g i

-- the report of a stretch is true
pub record IsTrueReport {L : Type 0} (app : App L) (from_text : List ℕ → Option L) (opening : Configuration L)
    (es : List Entry) (s : Stretch L) (r : Report) : Type 0 where
  -- the node top finished there, and told that the session is complete
  pub top : ℕ
  pub left : Configuration L
  pub told : IsApplied app from_text opening es r.finished (Finish top) (Complete r.number) left
  -- right after it every node of its component is in the session, and none is reset
  pub complete : IsComplete left top r.number
  -- where the stretch has the opening, each other node of the component joined since
  pub joined : (position : ℕ) → r.opened ≡ Some position → length s.before < position
      → IsJoined app from_text opening es left.graph top position r.finished
  -- where it has not, it has none at that node up to there
  pub earlier : List Event
  pub so_far : told.before ≡ s.before ++ steps earlier
  pub unopened : ((position : ℕ) → r.opened ≡ Some position → position ≤ length s.before)
      → times (is_open_at top) earlier ≡ 0
