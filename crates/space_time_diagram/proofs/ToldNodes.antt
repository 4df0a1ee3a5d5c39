-- The node that told a completion, and the reports that are left.
use Rattle.std.proofs.Common.{◌≡◌, ℕ, ◌-◌, ◌<◌, ◌≤◌, List, [], filter, length, take, drop, Option, Some, refl}
use Rattle.std.proofs.Common.{sym, ap, ◌∙◌, slice_index_or, slice_get, arith}
use Rattle.std.proofs.lemmas.Option.{slice_get_read}
use Rattle.std.specs.Option.{option_map_or}
use Rattle.topology.specs.Components.{component}
use Rattle.topology.specs.Graph.{Graph, is_node}
use Rattle.app_interface.specs.Application.{App}
use Rattle.reset_model.specs.Configuration.{Configuration}
use Rattle.history.specs.declared.entry.Entry.{Entry}
use Rattle.history.specs.Entries.{replayed}
use Rattle.history.proofs.Replays.{replayed_between}
use Rattle.space_time_diagram.specs.Bands.{entry_node}
use Rattle.space_time_diagram.specs.Completions.{told_nodes}

-- those of these nodes that are in the component that a node has in a configuration
abbrev across : {L : Type 0} → List ℕ → Configuration L → ℕ → List ℕ
across nodes after n = filter (is_node (component after.graph n)) nodes

-- what the entries down to a position leave, and the entry there
pub told_by : {L : Type 0} (app : App L) (from_text : List ℕ → Option L) (nodes : List ℕ) (c d : Configuration L)
    (es : List Entry) (place : ℕ) (x : Entry) → 0 < place → place ≤ length es → x ≡ slice_index_or es (place - 1) x
    → replayed app from_text c (take place es) ≡ Some d
    → told_nodes app from_text nodes c es place ≡ filter (is_node (component d.graph (entry_node x))) nodes
told_by app from_text nodes c d es place x first within is here =
    let at : slice_get es (place - 1) ≡ Some x = slice_get_read es (length es) (place - 1) x refl (omega (
      arith,
      first,
      within,
    )) is in
    ap (λ o. option_map_or (λ after. across nodes after (option_map_or entry_node o 0)) (replayed app from_text c (take place
    es)) []) at
    ∙ ap (λ o. option_map_or (λ after. across nodes after (entry_node x)) o []) here

-- the nodes of the component of the node of the last entry, where those after the first m leave e
pub told_there : {L : Type 0} (app : App L) (from_text : List ℕ → Option L) (nodes : List ℕ) (c d e : Configuration L)
    (es : List Entry) (m place : ℕ) (x : Entry) (g : Graph) (n : ℕ) → m < place → place ≤ length es
    → x ≡ slice_index_or es (place - 1) x
    → replayed app from_text c (take m es) ≡ Some d
    → replayed app from_text d (take (place - m) (drop m es)) ≡ Some e → g ≡ e.graph → n ≡ entry_node x
    → told_nodes app from_text nodes c es place ≡ filter (is_node (component g n)) nodes
told_there app from_text nodes c d e es m place x g n above within is before after of_it at =
    told_by app from_text nodes c e es place x (omega (arith, above)) within is
    (replayed_between app from_text c d es m (place - m) place before (omega (arith, above)) ∙ after)
    ∙ ap (λ (h : Graph). filter (is_node (component h (entry_node x))) nodes) (sym of_it)
    ∙ ap (λ k. filter (is_node (component g k)) nodes) (sym at)
