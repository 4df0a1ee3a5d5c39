-- Turns, one after the other.
use Rattle.std.proofs.Common.{◌≡◌, ℕ, zero, suc, All, List, [], ◌∷◌, ◌++◌, length, Option, Some, append_assoc}
use Rattle.std.proofs.Common.{append-nil, ap, sym, subst, arith, take, ◌∙◌, ◌≤◌, ◌+◌}
use Rattle.std.proofs.Math.Seq.{take-append_seam}
use Rattle.std.proofs.lemmas.List.{length-append}
use Rattle.std.proofs.lemmas.List.Elements.{All-append}
use Rattle.app_interface.specs.Application.{App}
use Rattle.reset_model.specs.declared.event.Event.{Event}
use Rattle.reset_model.specs.View.{IsSeen, NodeView, view_of}
use Rattle.node_choices.specs.Choice.{next_of}
use Rattle.history.specs.declared.entry.Receipt.{Receipt}
use Rattle.history.specs.Book.{BookView}
use Rattle.node_threads.specs.Locked.{HasContinuation, IsBooked}
use Rattle.node_threads.specs.Seats.{SeatView, with_receipt}
use Rattle.node_threads.specs.Turns.{AddsTurns, IsTurn}

only : {X : Type 0} (P : X → Type 0) (x : X) → P x → All P (x ∷ [])
only P x is zero d low = is
only P x is (suc k) d low = absurd (omega arith)

nothing : {X : Type 0} (P : X → Type 0) → All P []
nothing P k d low = absurd (omega arith)

-- a seat that stays as it is has no turn more
pub no_turn : {L : Type 0} (app : App L) (from_text : List ℕ → Option L) (first : BookView L) (i : ℕ) (old new : List Receipt)
    → new ≡ old → AddsTurns app from_text first i old new
no_turn app from_text first i old new same =
    record { more = []; added = same ∙ sym (append-nil old); turns = nothing (IsTurn app from_text first i) }

-- a plan for the event that the view allows first is committed
pub a_turn : {L : Type 0} (app : App L) (from_text : List ℕ → Option L) (first : BookView L) (i : ℕ) (old new : List Receipt)
    (v : NodeView L) (e : Event) (receipt : Receipt)
    → new ≡ old ++ receipt ∷ [] → v.id ≡ i → next_of app v ≡ Some e → receipt.event ≡ e
    → HasContinuation app from_text first (λ b. IsSeen app b.config v × IsBooked app b e receipt)
    → AddsTurns app from_text first i old new
a_turn app from_text first i old new v e receipt added own allowed same was =
    record { more = receipt ∷ []; added = added; turns = only (IsTurn app from_text first i) receipt turn }
  where
    turn : IsTurn app from_text first i receipt
    turn = record {
      book = was.book;
      continued = was.continued;
      such = (
        ap (λ k. next_of app (view_of app was.book.config k)) (sym own) ∙ ap (next_of app) (sym was.such.0.1) ∙ allowed
            ∙ ap Some (sym same),
        subst (λ x. IsBooked app was.book x receipt) (sym same) was.such.1,
      );
    }

-- turns after turns
pub more_turns : {L : Type 0} (app : App L) (from_text : List ℕ → Option L) (first : BookView L) (i : ℕ)
    (old now new : List Receipt) → AddsTurns app from_text first i old now
    → AddsTurns app from_text first i now new → AddsTurns app from_text first i old new
more_turns app from_text first i old now new some next = record {
  more = some.more ++ next.more;
  added = next.added ∙ ap (λ l. l ++ next.more) some.added ∙ append_assoc old some.more next.more;
  turns = All-append (IsTurn app from_text first i) some.more next.more some.turns next.turns;
}

-- the same at the seat, whose node stays
pub turns_on : {L : Type 0} (app : App L) (from_text : List ℕ → Option L) (first : BookView L) (i j : ℕ)
    (old now new : List Receipt) → j ≡ i → AddsTurns app from_text first i old now
    → AddsTurns app from_text first j now new → AddsTurns app from_text first i old new
turns_on app from_text first i j old now new same some next =
    more_turns app from_text first i old now new some
    (subst (λ k. AddsTurns app from_text first k now new) same next)

-- what a seat had stays
pub kept_before : {L : Type 0} (app : App L) (from_text : List ℕ → Option L) (first : BookView L) (i : ℕ) (old new : List Receipt)
    → AddsTurns app from_text first i old new → take (length old) new ≡ old
kept_before app from_text first i old new turns =
    ap (take (length old)) turns.added ∙ take-append_seam old turns.more

-- a seat with a receipt more has one more
pub most_with : (old new : SeatView) (receipt : Receipt) → new ≡ with_receipt old receipt
    → length new.receipts ≤ length old.receipts + 1
most_with old new receipt same =
    let longer : length new.receipts ≡ length old.receipts + 1 =
    ap (λ s. length s.receipts) same ∙ length-append old.receipts (receipt ∷ []) in
    omega (arith, longer)
