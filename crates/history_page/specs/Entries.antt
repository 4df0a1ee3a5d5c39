-- The lines of entries.
use Rattle.std.specs.Prelude.{ℕ, List, [], ◌∷◌, ◌++◌, codes, Option, Some, None}
use Rattle.std.specs.Fmt.{decimal}
use Rattle.std.specs.List.{concat, flat_map}
use Rattle.std.specs.Option.{option_map_or}
use Rattle.app_interface.specs.Application.{App}
use Rattle.topology.specs.Graph.{Graph, neighbours_of}
use Rattle.reset_model.specs.Configuration.{Configuration}
use Rattle.reset_model.specs.Steps.{event_node}
use Rattle.reset_model.specs.declared.event.Event.{Event}
use Rattle.reset_model.specs.declared.event.Event.TheVariants.{Claim, Follow, Adopt, Request, Relay, Open, Join}
use Rattle.reset_model.specs.declared.event.Event.TheVariants.{Finish, Mend, Act}
use Rattle.fault_inject.specs.declared.fault.Fault.{Fault}
use Rattle.fault_inject.specs.declared.fault.Fault.TheVariants.{SetTree, SetWave, SetLocal, LinkDown, LinkUp}
use Rattle.fault_inject.specs.declared.fault.Fault.TheVariants.{NodeDown, NodeUp}
use Rattle.history.specs.declared.entry.Entry.{Entry}
use Rattle.history.specs.declared.entry.Entry.TheVariants.{Step, Disturbed}
use Rattle.history.specs.declared.entry.Report.{Report}
use Rattle.history.specs.Entries.{entered}
use Rattle.history.specs.HistoryText.{entry_line}
use Rattle.history.specs.Reports.{report_of}
use Rattle.history_page.specs.declared.field.Field.{Field}
use Rattle.history_page.specs.declared.field.Field.TheVariants as field
use Rattle.history_page.specs.Failing.{changes_text, noted}
use Rattle.history_page.specs.Fields.{fields_text}
use Rattle.history_page.specs.Lines.{line_text}

-- ---- what an entry writes and concerns

-- the node of a fault: its own, and of a link the first end that it names
abbrev pub fault_node : Fault → ℕ
fault_node (SetTree at regs) = at
fault_node (SetWave at regs) = at
fault_node (SetLocal at text) = at
fault_node (LinkDown a b) = a
fault_node (LinkUp a b) = a
fault_node (NodeDown at) = at
fault_node (NodeUp at) = at

-- the node of an entry
abbrev pub entry_node : Entry → ℕ
entry_node (Step e) = event_node e
entry_node (Disturbed f) = fault_node f

-- what an event writes at its node
abbrev pub event_fields : Event → List Field
event_fields (Claim i) = field.Tree ∷ []
event_fields (Follow i) = field.Tree ∷ []
event_fields (Adopt i j) = field.Tree ∷ []
event_fields (Request i) = field.Wave ∷ []
event_fields (Relay i c) = field.Wave ∷ []
event_fields (Open i) = field.Wave ∷ field.Local ∷ []
event_fields (Join i) = field.Wave ∷ field.Local ∷ []
event_fields (Finish i) = field.Wave ∷ []
event_fields (Mend i) = field.Wave ∷ []
event_fields (Act i case with) = field.Local ∷ []

-- what a fault writes at its node: one that comes up has all of it anew
abbrev pub fault_fields : Fault → List Field
fault_fields (SetTree at regs) = field.Tree ∷ []
fault_fields (SetWave at regs) = field.Wave ∷ []
fault_fields (SetLocal at text) = field.Local ∷ []
fault_fields (LinkDown a b) = []
fault_fields (LinkUp a b) = []
fault_fields (NodeDown at) = []
fault_fields (NodeUp at) = field.Tree ∷ field.Wave ∷ field.Local ∷ []

-- what an entry writes at its node
abbrev pub entry_fields : Entry → List Field
entry_fields (Step e) = event_fields e
entry_fields (Disturbed f) = fault_fields f

-- the new neighbour of the node of an entry
abbrev pub newcomers : Entry → List ℕ
newcomers (Disturbed (LinkUp a b)) = b ∷ []
newcomers _ = []

-- the nodes at which an entry can change what fails: its own, the neighbours that this has, and the one that it gets
abbrev pub concerned : Graph → Entry → List ℕ
concerned g entry = entry_node entry ∷ (neighbours_of g (entry_node entry) ++ newcomers entry)

-- ---- their lines

-- the position of an opening, or a dash where it isn't known
abbrev pub opening_text : Option ℕ → List ℕ
opening_text None = codes "-"
opening_text (Some opened) = decimal opened

-- that a session was told complete
abbrev pub report_text : Report → List ℕ
report_text r = concat (codes ";*" ∷ decimal r.number ∷ codes " " ∷ opening_text r.opened ∷ [])

-- the line of an entry, after which this is there: the command, what it wrote, what fails since, and what it reports
abbrev pub entry_data : {L : Type 0} → App L → (L → List ℕ) → Configuration L → Configuration L → Entry
    → List Report → List ℕ
entry_data app text c after entry reports = entry_line entry
    ++ (fields_text app text after (entry_node entry) (entry_fields entry)
    ++ (changes_text app after (noted app c (concerned c.graph entry)) ++ flat_map report_text reports))

-- the lines of entries, from c on, where entries came before, the latest first
unfoldable pub entries_text : {L : Type 0} → App L → (L → List ℕ) → (List ℕ → Option L) → Configuration L
    → List Entry → List Entry → List ℕ
entries_text app text from_text c before [] = []
entries_text app text from_text c before (e ∷ es) =
    option_map_or (λ after. line_text (entry_data app text c after e (report_of app c before e))
    ++ entries_text app text from_text after (e ∷ before) es) (entered app from_text c e) []
