-- What steps made of a book.
use Rattle.std.specs.Prelude.{ℕ, All, List, [], Option}
use Rattle.app_interface.specs.Application.{App}
use Rattle.topology.specs.Graph.{Graph}
use Rattle.reset_model.specs.declared.event.Event.{Event}
use Rattle.reset_model.specs.BySteps.{IsBySteps}
use Rattle.history.specs.Book.{BookView}
use Rattle.history.specs.Reports.{reports_of}
use Rattle.history.specs.Stretches.{IsIn, IsStretch, IsTrueReport, Stretch}

-- these events as a stretch from the first book to this one
abbrev pub stretch_since : {L : Type 0} → BookView L → BookView L → List Event → Stretch L
stretch_since first b events =
    record { before = first.entries; events = events; rest = []; here = first.config; left = b.config }

-- what the book has since the first one is one undisturbed stretch: it is steps, of which the headline holds and whose
-- waves end, and each report of it is true
pub record IsStepped {L : Type 0} (app : App L) (from_text : List ℕ → Option L) (Inv : Graph → (ℕ → L) → Type 0)
    (first b : BookView L) : Type 0 where
  pub events : List Event
  pub stretch : IsStretch app from_text b.opening b.entries (stretch_since first b events)
  pub steps : IsBySteps app Inv first.config events b.config
  pub reports : All (λ r. IsIn (stretch_since first b events) r.finished
      → IsTrueReport app from_text b.opening b.entries (stretch_since first b events) r)
      (reports_of app from_text b.opening b.entries)
