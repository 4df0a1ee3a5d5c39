-- What is written of an entry that isn't allowed where it stands.
use Rattle.std.proofs.Common.{◌≡◌, ℕ, ◌<◌, ◌≤◌, Bool, [], if◌then◌else◌, List, None, Option, Ok, Err, Result, ap, ap₂, false, get_or}
use Rattle.std.proofs.Common.{length, map, refl, subst, sym, take, true, ◌∙◌}
use Rattle.std.specs.Io.KnownBytes.{Appends}
use Rattle.std.specs.List.{flat_map}
use Rattle.std.proofs.lemmas.List.{take_all}
use Rattle.std.proofs.lemmas.List.Folds.{flat_map-map}
use Rattle.action_tables.specs.RowText.{as_printed}
use Rattle.action_tables.specs.Table.{PrintedRow, printed}
use Rattle.action_tables.specs.Written.{AppendsPrefix}
use Rattle.action_tables.specs.declared.row.CaseRow.{CaseRow}
use Rattle.action_tables.proofs.Pieces.{AppendsPrefix-piece}
use Rattle.topology.specs.Graph.{IsNode}
use Rattle.tree_layer.specs.TreeTable.{LocalView as TreeView, tree_table}
use Rattle.tree_layer.specs.declared.regs.TreeRegs.{TreeRegs}
use Rattle.wave_layer.specs.WaveTable.{LocalView as WaveView, wave_table}
use Rattle.wave_layer.specs.declared.regs.WaveRegs.{WaveRegs}
use Rattle.app_token.specs.Token.{token_table}
use Rattle.app_token.specs.declared.local.TokenLocal.{TokenLocal}
use Rattle.app_mutex.specs.Mutex.{mutex_table}
use Rattle.app_mutex.specs.declared.local.MutexLocal.{MutexLocal}
use Rattle.app_routes.specs.Routes.{routes_table}
use Rattle.app_routes.specs.declared.entry.Entry.{Entry}
use Rattle.reset_model.specs.Configuration.{Configuration}
use Rattle.reset_model.specs.LocalSteps.{cases_of}
use Rattle.reset_model.specs.Steps.{is_of_tree}
use Rattle.reset_model.specs.declared.event.Event.{Event}
use Rattle.reset_model.specs.declared.plan.Seen.{Seen}
use Rattle.reset_model.specs.declared.plan.Seen.TheVariants.{Tree, Wave}
use Rattle.applications.specs.Meaning.{Meaning}
use Rattle.fault_inject.specs.declared.refusal.FaultRefusal.{FaultRefusal}
use Rattle.history.specs.Entries.{left_by_fault}
use Rattle.reset_model.specs.declared.step.StepRefusal.TheVariants.{StrangeNode}
use Rattle.script_replay.specs.Output.{at_node, disturbed, refusal_text, shown}
use Rattle.script_replay.proofs.Nodes.{no_node_there, node_there}
use Rattle.reset_service.specs.Reasons.{guard_line, guards_of, line_there, mutex_rows, printed_rows, routes_rows, token_rows}

-- a fault that is refused changes nothing
pub disturbed_stays : {L : Type 0} (c : Configuration L) (r : Result (Configuration L) FaultRefusal)
    → left_by_fault r ≡ None → (disturbed c r).0 ≡ c
disturbed_stays c (Ok left) none = absurd (cc)
disturbed_stays c (Err f) none = refl

module _ {L : Type 0} (m : Meaning L) (c : Configuration L) where
  -- the line of a node is what is answered of it, and there is none of what is no node
  pub line_of_node : (i : ℕ) → IsNode c.graph i → at_node c i (shown m c i) ≡ line_there m c i
  line_of_node i node =
      ap (λ b. if b then shown m c i else refusal_text StrangeNode) (node_there c i node)
      ∙ sym (ap (λ b. if b then shown m c i else []) (node_there c i node))

  pub line_of_none : (i : ℕ) → (IsNode c.graph i → ⊥) → line_there m c i ≡ []
  line_of_none i none = ap (λ b. if b then shown m c i else []) (no_node_there c i none)

-- ---- what rows ask for

-- the line of the i-th row failed
pub no_line : (a b c : Option (List ℕ)) (line : PrintedRow → List ℕ) (rows : List CaseRow) (i : ℕ) (d : CaseRow)
    → i < length rows → Appends a b (flat_map (λ row. line (as_printed row)) (take i rows))
    → AppendsPrefix b c (line (as_printed (get_or rows i d))) → AppendsPrefix a c (flat_map line (map as_printed rows))
no_line a b c line rows i d low before here =
    rw (flat_map-map line as_printed rows)
    (AppendsPrefix-piece a b c (λ row. line (as_printed row)) rows i d low before here)

-- all lines were written
pub all_lines : (a b : Option (List ℕ)) (line : PrintedRow → List ℕ) (rows : List CaseRow) (i : ℕ) → length rows ≤ i
    → Appends a b (flat_map (λ row. line (as_printed row)) (take i rows))
    → Appends a b (flat_map line (map as_printed rows))
all_lines a b line rows i all before =
    rw (flat_map-map line as_printed rows)
    (subst (λ (l : List CaseRow). Appends a b (flat_map (λ row. line (as_printed row)) l)) (take_all i rows all) before)

-- the rows of the applications
pub of_token : (rows : List CaseRow)
    → ((j : ℕ) (own : TokenLocal) (arriving : Bool) → map as_printed rows ≡ map printed (token_table j own arriving))
    → map as_printed rows ≡ token_rows
unfolding token_rows
of_token rows same = same 0 (record { hold = false; given = []; taken = [] }) false

pub of_mutex : (rows : List CaseRow)
    → ((own : MutexLocal) (held : Bool) → map as_printed rows ≡ map printed (mutex_table own held))
    → map as_printed rows ≡ mutex_rows
unfolding mutex_rows
of_mutex rows same = same (record { inside = false; bit = false }) false

pub of_routes : (rows : List CaseRow)
    → ((bound j : ℕ) (own theirs : List Entry) → map as_printed rows ≡ map printed (routes_table bound j own theirs))
    → map as_printed rows ≡ routes_rows
unfolding routes_rows
of_routes rows same = same 0 0 [] []

module _ (e : Event) (numbers : List ℕ) (rows : List CaseRow) (are : numbers ≡ cases_of e) where
  guards_are : (seen : Seen) → map as_printed rows ≡ printed_rows seen
      → flat_map (guard_line numbers) (map as_printed rows) ≡ guards_of seen e
  unfolding guards_of
  guards_are seen same = ap₂ (λ ns l. flat_map (guard_line ns) l) are same

  -- a table prints the same wherever it stands
  pub tree_guards : is_of_tree e ≡ true
      → ((v : TreeView) (asked : List (ℕ × TreeRegs)) → map as_printed rows ≡ map printed (tree_table v asked))
      → (v : TreeView) (w : WaveView)
      → flat_map (guard_line numbers) (map as_printed rows) ≡ guards_of (if is_of_tree e then Tree v else Wave w) e
  tree_guards of_tree same v w =
      guards_are (Tree v) (same v []) ∙ sym (ap (λ b. guards_of (if b then Tree v else Wave w) e) of_tree)

  pub wave_guards : is_of_tree e ≡ false
      → ((v : WaveView) (asked : List (ℕ × WaveRegs)) → map as_printed rows ≡ map printed (wave_table v asked))
      → (v : TreeView) (w : WaveView)
      → flat_map (guard_line numbers) (map as_printed rows) ≡ guards_of (if is_of_tree e then Tree v else Wave w) e
  wave_guards of_wave same v w =
      guards_are (Wave w) (same w []) ∙ sym (ap (λ b. guards_of (if b then Tree v else Wave w) e) of_wave)
