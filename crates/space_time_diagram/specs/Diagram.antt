-- Space-time diagrams of histories.
use Rattle.std.specs.Prelude.{ℕ, List, [], ◌∷◌, length, Option}
use Rattle.std.specs.List.{concat}
use Rattle.app_interface.specs.Application.{App}
use Rattle.reset_model.specs.Configuration.{Configuration}
use Rattle.history.specs.declared.entry.Entry.{Entry}
use Rattle.history.specs.declared.entry.Report.{Report}
use Rattle.space_time_diagram.specs.declared.band.Band.{Band}
use Rattle.space_time_diagram.specs.Bands.{bands_of, bands_text}
use Rattle.space_time_diagram.specs.Completions.{completions}
use Rattle.space_time_diagram.specs.Frame.{head_text}
use Rattle.space_time_diagram.specs.Headings.{foot_text}
use Rattle.space_time_diagram.specs.Lanes.{lane_of, own_lane}
use Rattle.space_time_diagram.specs.Marks.{marks_from}

-- the picture of these nodes and of so many entries, with these bands, with these marks and with these lines of
-- completions, part by part: each is painted over those before it
abbrev pub page_text : (ℕ → ℕ) → List ℕ → ℕ → List Band → List ℕ → List ℕ → List ℕ
page_text lane nodes count bands marks lines =
    concat (head_text (length nodes) count ∷ bands_text bands ∷ marks ∷ lines ∷ foot_text lane nodes count ∷ [])

-- the picture of these nodes, and of entries from the opening c on, before which so many came, and of what they report
abbrev pub diagram_text : {L : Type 0} → App L → (List ℕ → Option L) → List ℕ → ℕ → Configuration L → List Entry
    → List Report → List ℕ
diagram_text app from_text nodes before c es reports =
    page_text (lane_of nodes c) nodes (length es) (bands_of app from_text nodes c es)
    (marks_from (own_lane nodes c) before 1 es) (completions app from_text nodes before c es reports)
