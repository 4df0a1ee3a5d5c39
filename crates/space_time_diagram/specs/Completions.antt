-- The lines of completions.
use Rattle.std.specs.Prelude.{ℕ, ◌+◌, ◌-◌, ◌<◌, ◌≤◌, List, [], ◌∷◌, codes, filter, length, take, slice_get}
use Rattle.std.specs.Prelude.{Option, Some, None, IfSome}
use Rattle.std.specs.Fmt.{decimal}
use Rattle.std.specs.List.{concat, flat_map}
use Rattle.std.specs.Option.{option_map, option_map_or}
use Rattle.topology.specs.Components.{component}
use Rattle.topology.specs.Graph.{Graph, is_node}
use Rattle.app_interface.specs.Application.{App}
use Rattle.reset_model.specs.Configuration.{Configuration}
use Rattle.history.specs.Entries.{replayed}
use Rattle.history.specs.declared.entry.Entry.{Entry}
use Rattle.history.specs.declared.entry.Report.{Report}
use Rattle.space_time_diagram.specs.Bands.{entry_node}
use Rattle.space_time_diagram.specs.Lanes.{lane_of}
use Rattle.space_time_diagram.specs.Page.{lane_left, right_end, row_y}

-- the session of a report was opened before it was complete
abbrev pub IsOpenedBefore : Report → Type 0
IsOpenedBefore r = IfSome r.opened (λ opened. opened < r.finished)

-- the reports are of entries after this position and up to the last, each after those before it
abbrev pub AreInTurn : ℕ → ℕ → List Report → Type 0
AreInTurn from last [] = Unit {0}
AreInTurn from last (r ∷ rs) =
    ((from < r.finished) × (r.finished ≤ last) × IsOpenedBefore r) × AreInTurn r.finished last rs

-- the node of the entry at a position
abbrev pub node_at : List Entry → ℕ → ℕ
node_at es place = option_map_or entry_node (slice_get es (place - 1)) 0

-- those of these nodes that are in the component of a node
abbrev pub members : List ℕ → Graph → ℕ → List ℕ
members nodes g i = filter (is_node (component g i)) nodes

-- those that are in the component that the node of the entry at a position has right after it
abbrev pub told_nodes : {L : Type 0} → App L → (List ℕ → Option L) → List ℕ → Configuration L → List Entry → ℕ → List ℕ
told_nodes app from_text nodes c es place =
    option_map_or (λ after. members nodes after.graph (node_at es place)) (replayed app from_text c (take place es)) []

-- the tag of a completion, whose row is at y
unfoldable pub completion_tag : ℕ → List ℕ
completion_tag y = concat (codes "<g class='completion' transform='translate(0 " ∷ decimal y ∷ codes ")'>" ∷ [])

-- the words of a completion, to be read at its line: its session, the number of the entry that told it, and that of the
-- opening where it is known
unfoldable pub completion_words : ℕ → Option ℕ → ℕ → List ℕ
completion_words session (Some opened) finished =
    concat (codes "<title>session " ∷ decimal session ∷ codes ": opened at " ∷ decimal opened ∷ codes ", complete at "
    ∷ decimal finished ∷ codes "</title>" ∷ [])
completion_words session None finished =
    concat (codes "<title>session " ∷ decimal session ∷ codes ": complete at " ∷ decimal finished
    ∷ codes "</title>" ∷ [])

-- those of a report, if so many entries came before the first
abbrev pub report_words : ℕ → Report → List ℕ
report_words before r =
    completion_words r.number (option_map (λ opened. before + opened) r.opened) (before + r.finished)

-- a piece of its line, below its row, across the lane that begins at x
unfoldable pub piece_text : ℕ → List ℕ
piece_text x = concat (codes "<path d='M" ∷ decimal x ∷ codes " 11h56'/>" ∷ [])

-- the piece on the lane of a node
abbrev pub piece : (ℕ → ℕ) → ℕ → List ℕ
piece lane i = piece_text (lane_left (lane i))

-- its session, right of all lanes, which end at x
unfoldable pub completion_end : ℕ → ℕ → List ℕ
completion_end x session =
    concat (codes "<text dx='6' y='15' x='" ∷ decimal x ∷ codes "'>session " ∷ decimal session
    ∷ codes " complete</text></g>\n" ∷ [])

-- where a session was told complete, if so many entries came before the first: a line across the lanes of these nodes,
-- and its session right of all lanes
abbrev pub completion_line : (ℕ → ℕ) → ℕ → ℕ → List ℕ → Report → List ℕ
completion_line lane lanes before nodes r =
    concat (completion_tag (row_y r.finished)
    ∷ report_words before r ∷ flat_map (piece lane) nodes ∷ completion_end (right_end lanes) r.number ∷ [])

-- the same, and nothing where it would be across no lane
abbrev pub completion : (ℕ → ℕ) → ℕ → ℕ → List ℕ → Report → List ℕ
completion lane lanes before [] r = []
completion lane lanes before (i ∷ is) r = completion_line lane lanes before (i ∷ is) r

-- the completion of a report, across the lanes of the component of the node that told it
abbrev pub told_completion : {L : Type 0} → App L → (List ℕ → Option L) → List ℕ → ℕ → Configuration L → List Entry
    → Report → List ℕ
told_completion app from_text nodes before c es r =
    completion (lane_of nodes c) (length nodes) before (told_nodes app from_text nodes c es r.finished) r

-- those of all reports
abbrev pub completions : {L : Type 0} → App L → (List ℕ → Option L) → List ℕ → ℕ → Configuration L → List Entry
    → List Report → List ℕ
completions app from_text nodes before c es reports =
    flat_map (told_completion app from_text nodes before c es) reports
