-- What turns of a node add to its seat.
use Rattle.std.specs.Prelude.{◌≡◌, ℕ, All, List, ◌++◌, Option, Some}
use Rattle.app_interface.specs.Application.{App}
use Rattle.reset_model.specs.View.{view_of}
use Rattle.node_choices.specs.Choice.{next_of}
use Rattle.history.specs.declared.entry.Receipt.{Receipt}
use Rattle.history.specs.Book.{BookView}
use Rattle.node_threads.specs.Locked.{HasContinuation, IsBooked}

-- the receipt is of the first event that the view of the node i allows in a continuation of the first book, which does
-- it with this receipt
abbrev pub IsTurn : {L : Type 0} → App L → (List ℕ → Option L) → BookView L → ℕ → Receipt → Type 0
IsTurn app from_text first i receipt =
    HasContinuation app from_text first
    (λ b. (next_of app (view_of app b.config i) ≡ Some receipt.event) × IsBooked app b receipt.event receipt)

-- the receipts that the seat of the node i has more are each of a turn
pub record AddsTurns {L : Type 0} (app : App L) (from_text : List ℕ → Option L) (first : BookView L) (i : ℕ)
    (old new : List Receipt) : Type 0 where
  pub more : List Receipt
  pub added : new ≡ old ++ more
  pub turns : All (IsTurn app from_text first i) more
