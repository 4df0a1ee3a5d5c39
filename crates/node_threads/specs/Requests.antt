-- How often the nodes of a run ask for a reset.
use Rattle.std.specs.Prelude.{ℕ, ◌≤◌, ◌==◌, ◌&&◌, if◌then◌else◌, Bool, false, All, List, length, filter, drop}
use Rattle.std.specs.Option.{option_map_or}
use Rattle.topology.specs.Graph.{IsNode}
use Rattle.reset_model.specs.Progress.{is_request}
use Rattle.reset_model.specs.Steps.{event_node}
use Rattle.history.specs.Book.{BookView}
use Rattle.history.specs.declared.entry.Entry.{Entry}
use Rattle.history.specs.declared.entry.Entry.TheVariants.{Step, Disturbed}
use Rattle.history.specs.declared.entry.Receipt.{Receipt}
use Rattle.node_threads.specs.declared.tasks.Task.{Task}
use Rattle.node_threads.specs.Closed.{NodeList}

-- how many resets the node i is to ask for: those of the task, if it is the selected node, and else none
abbrev pub requests_at : Task → ℕ → ℕ
requests_at task i = option_map_or (λ selected. if selected == i then task.resets else 0) task.selected 0

-- the entry is a request of the node i
abbrev pub asks : ℕ → Entry → Bool
asks i (Step e) = is_request e && event_node e == i
asks i (Disturbed f) = false

-- how many of these entries are
abbrev pub requests_in : List Entry → ℕ → ℕ
requests_in entries i = length (filter (asks i) entries)

-- each node of the book has asked for no more resets since the first one than the task lets it
abbrev pub AsksAtMost : {L : Type 0} → Task → BookView L → BookView L → Type 0
AsksAtMost task first b =
    (i : ℕ) → IsNode b.config.graph i → requests_in (drop (length first.entries) b.entries) i ≤ requests_at task i

-- ---- what private clauses cite

-- how many of these receipts are of requests
abbrev pub request_count : List Receipt → ℕ
request_count receipts = length (filter (λ r. is_request r.event) receipts)

-- no node of these asked for more
abbrev pub AreAsked : Task → List NodeList → Type 0
AreAsked task lists = All (λ l. request_count l.1 ≤ requests_at task l.0) lists
