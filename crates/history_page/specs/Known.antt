-- What the clauses of private functions cite: what is known to fail, from one entry to the next.
use Rattle.std.specs.Prelude.{◌≡◌, ◌≢◌, ℕ, List, [], ◌∷◌, length, Option, Some, None}
use Rattle.app_interface.specs.Application.{App}
use Rattle.reset_model.specs.Configuration.{Configuration, put_at, value_at}
use Rattle.link_predicates.specs.Faults.{end_faults}
use Rattle.fault_inject.specs.declared.fault.Fault.TheVariants.{SetTree, SetWave, SetLocal, LinkDown, LinkUp}
use Rattle.fault_inject.specs.declared.fault.Fault.TheVariants.{NodeDown, NodeUp}
use Rattle.history.specs.declared.entry.Entry.{Entry}
use Rattle.history.specs.declared.entry.Entry.TheVariants.{Step, Disturbed}
use Rattle.reset_model.specs.Steps.{event_node}
use Rattle.history_page.specs.Failing.{failing, rows_text}

-- the rows that a list in the order of the identifiers has for this one
abbrev pub known_at : List ℕ → List (ℕ × List ℕ) → ℕ → List ℕ
known_at ids known i = (value_at (0, []) ids known i).1

-- the list has the rows that fail, at each identifier
pub record IsKnown {L : Type 0} (app : App L) (c : Configuration L) (known : List (ℕ × List ℕ)) : Type 0 where
  pub count : length known ≡ length c.graph.ids
  pub rows : (i : ℕ) → known_at c.graph.ids known i ≡ rows_text (failing app c i)

-- the list with what fails now at nodes that were noted
abbrev pub kept : {L : Type 0} → App L → Configuration L → List (ℕ × List ℕ) → List (ℕ × List ℕ) → List (ℕ × List ℕ)
kept app c [] known = known
kept app c (n ∷ ns) known = kept app c ns (put_at c.graph.ids known n.0 (n.0, rows_text (failing app c n.0)))

-- the node at which alone an entry writes; a fault of a link or of a node changes the links
abbrev pub written_at : Entry → Option ℕ
written_at (Step e) = Some (event_node e)
written_at (Disturbed (SetTree at regs)) = Some at
written_at (Disturbed (SetWave at regs)) = Some at
written_at (Disturbed (SetLocal at text)) = Some at
written_at (Disturbed (LinkDown a b)) = None
written_at (Disturbed (LinkUp a b)) = None
written_at (Disturbed (NodeDown at)) = None
written_at (Disturbed (NodeUp at)) = None

-- another node than i at which nothing failed: where nothing fails at its end of its link to i, nothing does now
abbrev pub StaysQuiet : {L : Type 0} → App L → Configuration L → Option ℕ → ℕ × List ℕ → Type 0
StaysQuiet app c None node = Unit {0}
StaysQuiet app c (Some i) node =
    node.1 ≡ [] → node.0 ≢ i → end_faults app c node.0 i ≡ [] → failing app c node.0 ≡ []
