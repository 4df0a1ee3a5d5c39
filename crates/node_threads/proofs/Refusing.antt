-- Why a seat's plan or event is refused.
use Rattle.std.proofs.Common.{◌≡◌, ◌∙◌, ℕ, List, Option, Result, Ok, Err, OnOk, IfErr, ap, arith, refl, subst, sym}
use Rattle.std.proofs.Common.{Some, None, IfSome}
use Rattle.std.specs.Prelude.{◌≢◌, ◌↔◌, MatchOption}
use Rattle.app_interface.specs.Application.{App}
use Rattle.topology.specs.Graph.{IsNode}
use Rattle.reset_model.specs.declared.event.Event.{Event}
use Rattle.reset_model.specs.Planned.{NodePlan}
use Rattle.reset_model.specs.Steps.{event_node}
use Rattle.reset_model.specs.View.{NodeView}
use Rattle.history.specs.Book.{BookView, IsBook}
use Rattle.history.specs.declared.entry.Receipt.{Receipt}
use Rattle.node_threads.specs.Closed.{HasCloseFault, IsFaultOf}
use Rattle.node_threads.specs.Seats.{SeatView, nodes_of}
use Rattle.node_threads.specs.declared.closing.CloseFault.{CloseFault}
use Rattle.node_threads.specs.declared.closing.CloseFault.TheVariants as close
use Rattle.node_threads.specs.declared.run.RunCause.{RunCause}
use Rattle.node_threads.specs.declared.run.RunCause.TheVariants as run
use Rattle.history.specs.declared.refusal.ApplyRefusal.TheVariants.{StrangeNode, Stale, BookFull, NoMemory}
use Rattle.node_threads.specs.Locked.{IsFull, IsPlanOf, IsUncommitted, IsUndone}
use Rattle.node_threads.proofs.Collecting.{none_missing}
use Rattle.node_threads.specs.declared.refusal.CommitRefusal.{CommitRefusal}
use Rattle.node_threads.specs.declared.refusal.CommitRefusal.TheVariants as commit
use Rattle.node_threads.specs.declared.refusal.SeatRefusal.{SeatRefusal}
use Rattle.node_threads.specs.declared.refusal.SeatRefusal.TheVariants as seat

module _ {P L : Type 0} (app : App L) (from_text : List ℕ → Option L) (b : BookView L) (i : ℕ) (p : NodePlan L) where
  pub plan_not_yours : (f : CommitRefusal P L) → IsUncommitted app b i p f → f ≡ commit.NotYours ↔ (IsPlanOf i p → ⊥)
  plan_not_yours commit.NotYours is = (λ e. is, λ no. refl)
  plan_not_yours (commit.Refused why) is = (λ e. absurd (cc), λ no. absurd (no is.0))

  pub plan_stale : (f : CommitRefusal P L) → IsUncommitted app b i p f → (now : NodeView L)
      → f ≡ commit.Refused (Stale now) → (now.id ≡ i) × (p.view ≢ now)
  plan_stale commit.NotYours is now e = absurd (cc)
  plan_stale (commit.Refused StrangeNode) is now e = absurd (cc)
  plan_stale (commit.Refused (Stale seen)) is now e =
      let same : seen ≡ now = cc in
      subst (λ v. (v.id ≡ i) × (p.view ≢ v)) same (ap (λ v. v.id) is.1.1 ∙ is.0.seen, is.1.2)
  plan_stale (commit.Refused BookFull) is now e = absurd (cc)
  plan_stale (commit.Refused NoMemory) is now e = absurd (cc)

  -- the node of a seat is one of the book, and so is that of its plan
  pub plan_there : IsNode b.config.graph i → (f : CommitRefusal P L) → IsUncommitted app b i p f
      → f ≢ commit.Refused StrangeNode
  plan_there node commit.NotYours is e = absurd (cc)
  plan_there node (commit.Refused StrangeNode) is e =
      absurd (is.1 (subst (λ k. IsNode b.config.graph k) (sym is.0.seen) node))
  plan_there node (commit.Refused (Stale seen)) is e = absurd (cc)
  plan_there node (commit.Refused BookFull) is e = absurd (cc)
  plan_there node (commit.Refused NoMemory) is e = absurd (cc)

  -- a plan is refused for want of room only where the book is full
  pub plan_full : IsBook app from_text b → (f : CommitRefusal P L) → IsUncommitted app b i p f
      → f ≡ commit.Refused BookFull → IsFull b
  plan_full book commit.NotYours is e = absurd (cc)
  plan_full book (commit.Refused StrangeNode) is e = absurd (cc)
  plan_full book (commit.Refused (Stale seen)) is e = absurd (cc)
  plan_full book (commit.Refused BookFull) is e = omega (arith, is.1.1, book.room)
  plan_full book (commit.Refused NoMemory) is e = absurd (cc)

pub event_not_yours : {L : Type 0} (app : App L) (b : BookView L) (i : ℕ) (e : Event) (r : Result Receipt SeatRefusal)
    → OnOk r (event_node e ≡ i) → IfErr r (IsUndone app b i e) → r ≡ Err seat.NotYours ↔ event_node e ≢ i
event_not_yours app b i e (Ok receipt) on is = (λ told. absurd (cc), λ no. absurd (no on))
event_not_yours app b i e (Err seat.NotYours) on is = (λ told. is, λ no. refl)
event_not_yours app b i e (Err (seat.Refused why)) on is = (λ told. absurd (cc), λ no. absurd (no is.0))

-- a fault of closing that a run tells as one
pub told_close : (fault : CloseFault) (cause : RunCause) → (fault ≡ close.NoMemory → cause ≡ run.NoMemory)
    → (fault ≢ close.NoMemory → cause ≡ run.Close fault) → (f : CloseFault) → cause ≡ run.Close f
    → (fault ≡ f) × (f ≢ close.NoMemory)
told_close close.NoMemory cause memory other f is = (let same : cause ≡ run.NoMemory = memory refl in absurd (cc))
told_close (close.SeatMissing i) cause memory other f is =
    let by : cause ≡ run.Close (close.SeatMissing i) = other (λ e. absurd (cc)) in
    let same : close.SeatMissing i ≡ f = cc in (same, λ e. absurd (cc))
told_close (close.ListsDiffer i) cause memory other f is =
    let by : cause ≡ run.Close (close.ListsDiffer i) = other (λ e. absurd (cc)) in
    let same : close.ListsDiffer i ≡ f = cc in (same, λ e. absurd (cc))

-- what a run tells of the seats that don't close
pub has_close_fault : {L : Type 0} (app : App L) (from_text : List ℕ → Option L) (first b back : BookView L)
    (seats : List SeatView) (fault f : CloseFault) → nodes_of seats ≡ first.config.graph.nodes → back ≡ b
    → IsFaultOf app from_text first b seats fault → (fault ≡ f) × (f ≢ close.NoMemory)
    → HasCloseFault app from_text first back f
has_close_fault app from_text first b back seats fault f own is why (same, other) = record {
  seats = seats;
  own = own;
  fault = subst (λ k. IsFaultOf app from_text first k seats f) (sym is)
      (subst (IsFaultOf app from_text first b seats) same why);
  other = other;
}

-- no seat is missing where each node has one
pub has_all_seats : {L : Type 0} (app : App L) (from_text : List ℕ → Option L) (first back : BookView L) (i : ℕ)
    → HasCloseFault app from_text first back (close.SeatMissing i) → ⊥
has_all_seats app from_text first back i has =
    none_missing back.config.graph.nodes has.seats (has.own ∙ sym has.fault.continued.nodes) i has.fault.fault

-- a selected node isn't both there and strange
pub not_both : (selected : Option ℕ) (P : ℕ → Type 0) → MatchOption selected ⊥ (λ i. P i → ⊥) → IfSome selected P → ⊥
not_both None P strange there = strange
not_both (Some i) P strange there = strange there

-- what holds of any fault
pub any_err : {X E : Type 0} (r : Result X E) (P : E → Type 0) → ((f : E) → P f) → IfErr r P
any_err (Ok x) P all = tt
any_err (Err f) P all = all f
