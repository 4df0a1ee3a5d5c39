-- Which books can lie under the lock of a sharing, and why a change of one is refused.
use Rattle.std.specs.Prelude.{◌≡◌, ◌≢◌, ℕ, Bool, true, false, List, length, take, drop, Option, Ok, Err}
use Rattle.std.specs.List.{list_all}
use Rattle.app_interface.specs.Application.{App}
use Rattle.reset_model.specs.declared.event.Event.{Event}
use Rattle.reset_model.specs.Planned.{NodePlan}
use Rattle.reset_model.specs.Steps.{event_node}
use Rattle.history.specs.declared.entry.Entry.{Entry}
use Rattle.history.specs.declared.entry.Entry.TheVariants.{Step, Disturbed}
use Rattle.history.specs.declared.entry.Receipt.{Receipt}
use Rattle.history.specs.declared.refusal.BookRefusal.TheVariants.{NoMemory}
use Rattle.history.specs.Book.{BookView, IsBook, IsUnapplied, booked}
use Rattle.node_threads.specs.declared.refusal.CommitRefusal.{CommitRefusal}
use Rattle.node_threads.specs.declared.refusal.CommitRefusal.TheVariants as commit
use Rattle.node_threads.specs.declared.refusal.SeatRefusal.{SeatRefusal}
use Rattle.node_threads.specs.declared.refusal.SeatRefusal.TheVariants as seat

-- the entry is a step, and no fault
abbrev pub is_step : Entry → Bool
is_step (Step e) = true
is_step (Disturbed f) = false

-- the book is what steps alone have made of the first one: it opened the same, it has the same limit and the same
-- nodes, and its entries are those of the first one and then steps
pub record IsContinued {L : Type 0} (app : App L) (from_text : List ℕ → Option L) (first b : BookView L) :
    Type 0 where
  pub book : IsBook app from_text b
  pub opening : b.opening ≡ first.opening
  pub limit : b.limit ≡ first.limit
  pub nodes : b.config.graph.nodes ≡ first.config.graph.nodes
  pub before : take (length first.entries) b.entries ≡ first.entries
  pub steps : list_all is_step (drop (length first.entries) b.entries) ≡ true

-- steps alone can make such a book of the first one
pub record HasContinuation {L : Type 0} (app : App L) (from_text : List ℕ → Option L) (first : BookView L)
    (Q : BookView L → Type 0) : Type 0 where
  pub book : BookView L
  pub continued : IsContinued app from_text first book
  pub such : Q book

-- the book has as many entries as it may have
abbrev pub IsFull : {L : Type 0} → BookView L → Type 0
IsFull b = length b.entries ≡ b.limit

-- the book does the event, and this is the receipt
pub record IsBooked {L : Type 0} (app : App L) (b : BookView L) (e : Event) (receipt : Receipt) : Type 0 where
  pub after : BookView L
  pub done : booked app b e ≡ Ok (after, receipt)

-- the plan is one of the node i: it was made on what i sees, for an event of i
pub record IsPlanOf {L : Type 0} (i : ℕ) (p : NodePlan L) : Type 0 where
  pub seen : p.view.id ≡ i
  pub event : event_node p.event ≡ i

-- why the plan isn't committed at the seat of the node i
abbrev pub IsUncommitted : {P L : Type 0} → App L → BookView L → ℕ → NodePlan L → CommitRefusal P L → Type 0
IsUncommitted app b i p commit.NotYours = IsPlanOf i p → ⊥
IsUncommitted app b i p (commit.Refused why) = IsPlanOf i p × IsUnapplied app b p.view why

-- why the event isn't done at the seat of the node i. Want of memory may stand in place of the book's reason
abbrev pub IsUndone : {L : Type 0} → App L → BookView L → ℕ → Event → SeatRefusal → Type 0
IsUndone app b i e seat.NotYours = event_node e ≢ i
IsUndone app b i e (seat.Refused why) = (event_node e ≡ i) × (why ≢ NoMemory → booked app b e ≡ Err why)
