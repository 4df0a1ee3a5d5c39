-- Seat lists: what the entries of one node after a mark tell, and what its seat was told.
use Rattle.std.specs.Prelude.{ℕ, ◌+◌, ◌==◌, nat_lt, List, [], ◌∷◌, ◌++◌, filter, map, Option, Ok, Err}
use Rattle.std.specs.Option.{option_map_or}
use Rattle.app_interface.specs.Application.{App}
use Rattle.reset_model.specs.declared.event.Event.{Event}
use Rattle.reset_model.specs.Configuration.{Configuration}
use Rattle.reset_model.specs.Planned.{Outcome, outcome_of}
use Rattle.reset_model.specs.Steps.{event_node}
use Rattle.history.specs.declared.entry.Entry.{Entry}
use Rattle.history.specs.declared.entry.Entry.TheVariants.{Step, Disturbed}
use Rattle.history.specs.declared.entry.Receipt.{Receipt}
use Rattle.history.specs.Book.{BookView}
use Rattle.history.specs.Entries.{entered}

-- what contracts see of a seat: its node, what it was told, in turn, and the amount of its share
pub record SeatView : Type 0 where
  pub node : ℕ
  pub receipts : List Receipt
  pub amount : ℕ

-- the nodes of seats, in turn
abbrev pub nodes_of : List SeatView → List ℕ
nodes_of seats = map (λ s. s.node) seats

-- the seat of a node that was told nothing yet
abbrev pub empty_seat : ℕ → SeatView
empty_seat i = record { node = i; receipts = []; amount = 0 }

-- the seat with a receipt more
abbrev pub with_receipt : SeatView → Receipt → SeatView
with_receipt s receipt =
    record { node = s.node; receipts = s.receipts ++ receipt ∷ []; amount = s.amount + 1 }

-- ---- the receipts that the entries of a book tell

abbrev pub outcome_receipts : {L : Type 0} → Event → ℕ → Outcome L → List Receipt
outcome_receipts e position (Ok left) = record { position = position; event = e; reply = left.1 } ∷ []
outcome_receipts e position (Err f) = []

-- the receipt of an entry at this position, which stands at c: a step has one, a fault has none
abbrev pub receipt_of : {L : Type 0} → App L → Configuration L → ℕ → Entry → List Receipt
receipt_of app c position (Step e) = outcome_receipts e position (outcome_of app c e)
receipt_of app c position (Disturbed f) = []

-- the receipts of entries, from c on, where so many came before
unfoldable pub receipts_from : {L : Type 0} → App L → (List ℕ → Option L) → Configuration L → ℕ → List Entry
    → List Receipt
receipts_from app from_text c before [] = []
receipts_from app from_text c before (e ∷ es) =
    receipt_of app c (before + 1) e
    ++ option_map_or (λ after. receipts_from app from_text after (before + 1) es) (entered app from_text c e) []

-- the receipts of a book's entries after the mark
abbrev pub receipts_after : {L : Type 0} → App L → (List ℕ → Option L) → BookView L → ℕ → List Receipt
receipts_after app from_text b mark =
    filter (λ r. nat_lt mark r.position) (receipts_from app from_text b.opening 0 b.entries)

-- those of the node i
abbrev pub of_node : ℕ → List Receipt → List Receipt
of_node i receipts = filter (λ r. event_node r.event == i) receipts

-- the seat list of the node i: position, event and reply of each of its entries after the mark, in order
abbrev pub seat_list : {L : Type 0} → App L → (List ℕ → Option L) → BookView L → ℕ → ℕ → List Receipt
seat_list app from_text b mark i = of_node i (receipts_after app from_text b mark)
