-- Why an entry of a history isn't allowed where it stands, as a verification writes it.
use Rattle.std.specs.Prelude.{ℕ, false, List, [], ◌∷◌, ◌++◌, if◌then◌else◌, codes, map, Ok, Err, Option, Some, None}
use Rattle.std.specs.Fmt.{decimal}
use Rattle.std.specs.List.{concat, flat_map}
use Rattle.std.specs.Str.{bytes_eq}
use Rattle.action_tables.specs.Numbers.{is_among}
use Rattle.action_tables.specs.Table.{PrintedRow, printed}
use Rattle.topology.specs.Graph.{Graph, is_node, neighbours_of, node_bound}
use Rattle.tree_layer.specs.TreeTable.{tree_table}
use Rattle.wave_layer.specs.WaveTable.{wave_table}
use Rattle.app_token.specs.Token.{token_table}
use Rattle.app_mutex.specs.Mutex.{mutex_table}
use Rattle.app_routes.specs.Routes.{routes_table}
use Rattle.reset_model.specs.Configuration.{Configuration, tree_of, wave_of}
use Rattle.reset_model.specs.LocalSteps.{cases_of, seen_of}
use Rattle.reset_model.specs.Planned.{Outcome, outcome_of}
use Rattle.reset_model.specs.declared.event.Event.{Event}
use Rattle.reset_model.specs.declared.event.Event.TheVariants.{Claim, Follow, Adopt, Request, Relay, Open, Join, Finish}
use Rattle.reset_model.specs.declared.event.Event.TheVariants.{Mend, Act}
use Rattle.reset_model.specs.declared.plan.Seen.{Seen}
use Rattle.reset_model.specs.declared.plan.Seen.TheVariants.{Tree, Wave}
use Rattle.reset_model.specs.declared.step.StepRefusal.TheVariants.{NotEnabled}
use Rattle.applications.specs.Meaning.{Meaning}
use Rattle.fault_inject.specs.Effects.{injected}
use Rattle.history.specs.HistoryText.{ended, entry_line}
use Rattle.history.specs.declared.entry.Entry.{Entry}
use Rattle.history.specs.declared.entry.Entry.TheVariants.{Step, Disturbed}
use Rattle.history_page.specs.Entries.{entry_node}
use Rattle.script_replay.specs.Output.{disturbed, refusal_text, shown}

-- the node of an entry, and its neighbours
abbrev pub nodes_near : Graph → Entry → List ℕ
nodes_near g entry = entry_node entry ∷ neighbours_of g (entry_node entry)

-- the line of a node, where it is up
abbrev pub line_there : {L : Type 0} → Meaning L → Configuration L → ℕ → List ℕ
line_there m c i = if is_node c.graph i then shown m c i else []

-- the line of an entry
abbrev pub entry_text : Entry → List ℕ
entry_text entry = codes "entry " ++ ended (entry_line entry)

-- the rows in print of the table of a layer
abbrev pub printed_rows : Seen → List PrintedRow
printed_rows (Tree v) = map printed (tree_table v [])
printed_rows (Wave v) = map printed (wave_table v [])

-- what a row asks for
unfoldable pub row_line : PrintedRow → List ℕ
row_line row = concat (codes "row " ∷ decimal row.number ∷ codes " " ∷ row.name ∷ codes ": " ∷ row.guard ∷ ended [] ∷ [])

-- the same, if it is one of these
abbrev pub guard_line : List ℕ → PrintedRow → List ℕ
guard_line numbers row = if is_among row.number numbers then row_line row else []

-- what the rows ask for by which an event happens, in the table that its node acts by where it sees this. It stays folded:
-- unfolded, it has the tables
unfoldable pub guards_of : Seen → Event → List ℕ
guards_of seen e = flat_map (guard_line (cases_of e)) (printed_rows seen)

abbrev pub guards_text : {L : Type 0} → Configuration L → Event → List ℕ
guards_text c e = guards_of (seen_of c.graph (node_bound c.graph) c.modulus (tree_of c) (wave_of c) e) e

-- ---- actions

-- the rows in print of the tables of the applications, which print the same wherever they stand
unfoldable pub token_rows : List PrintedRow
token_rows = map printed (token_table 0 (record { hold = false; given = []; taken = [] }) false)

unfoldable pub mutex_rows : List PrintedRow
mutex_rows = map printed (mutex_table (record { inside = false; bit = false }) false)

unfoldable pub routes_rows : List PrintedRow
routes_rows = map printed (routes_table 0 0 [] [])

-- what a row asks for, if it has this name
abbrev pub named_line : List ℕ → PrintedRow → List ℕ
named_line name row = if bytes_eq row.name name then row_line row else []

abbrev pub named_lines : List ℕ → List PrintedRow → List ℕ
named_lines name rows = flat_map (named_line name) rows

-- what the row of this name asks for: no two applications have a row of one name
abbrev pub action_row : List ℕ → List ℕ
action_row name = named_lines name token_rows ++ (named_lines name mutex_rows ++ named_lines name routes_rows)

-- the same, if there is a name
abbrev pub action_guard : Option (List ℕ) → List ℕ
action_guard None = []
action_guard (Some name) = action_row name

-- the name of the case of an action
abbrev pub case_name : (ℕ → Option (List ℕ)) → Event → Option (List ℕ)
case_name names (Claim i) = None
case_name names (Follow i) = None
case_name names (Adopt i j) = None
case_name names (Request i) = None
case_name names (Relay i c) = None
case_name names (Open i) = None
case_name names (Join i) = None
case_name names (Finish i) = None
case_name names (Mend i) = None
case_name names (Act i case with) = names case

-- ---- refusals

-- the line of the refusal of an event, and where none of its rows is enabled, what they ask for
abbrev pub refused_text : {L : Type 0} → (ℕ → Option (List ℕ)) → Configuration L → Event → Outcome L → List ℕ
refused_text names c e (Ok done) = []
refused_text names c e (Err NotEnabled) =
    (refusal_text NotEnabled ++ guards_text c e) ++ action_guard (case_name names e)
refused_text names c e (Err f) = refusal_text f

-- what a script answers to the command of an entry that is refused, and where none of the rows of its event is enabled,
-- what they ask for
abbrev pub refusal_lines : {L : Type 0} → Meaning L → Configuration L → Entry → List ℕ
refusal_lines m c (Step e) = refused_text m.names c e (outcome_of m.app c e)
refusal_lines m c (Disturbed f) = (disturbed c (injected m.app m.from_text c f)).1

-- the lines of the node of an entry and of the neighbours
abbrev pub near_text : {L : Type 0} → Meaning L → Configuration L → Entry → List ℕ
near_text m c entry = flat_map (line_there m c) (nodes_near c.graph entry)

-- why an entry is refused here
abbrev pub reason_text : {L : Type 0} → Meaning L → Configuration L → Entry → List ℕ
reason_text m c entry = entry_text entry ++ (refusal_lines m c entry ++ near_text m c entry)
