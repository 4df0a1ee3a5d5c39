-- What a node sees of the two layers, with the rows that are enabled there.
use Rattle.std.specs.Prelude.{◌≡◌, ◌==◌, ℕ, Bool, true, false, if◌then◌else◌, List, length}
use Rattle.std.specs.List.{list_any}
use Rattle.action_tables.specs.Numbers.{is_among}
use Rattle.action_tables.specs.Table.{enabled_of}
use Rattle.tree_layer.specs.TreeTable.{tree_table}
use Rattle.wave_layer.specs.WaveTable.{wave_table}
use Rattle.reset_model.specs.declared.event.Event.{Event}
use Rattle.reset_model.specs.declared.plan.Seen.{Seen}
use Rattle.reset_model.specs.declared.plan.Seen.TheVariants.{Tree, Wave}
use Rattle.reset_model.specs.Steps.{is_of_tree}
use Rattle.reset_model.specs.View.{NodeView, tree_view, wave_view}

-- the rows of the layer's table that are enabled; one that names another node is where it is toward some
abbrev pub enabled_in : Seen → List ℕ
enabled_in (Tree v) = enabled_of (tree_table v v.near)
enabled_in (Wave v) = enabled_of (wave_table v v.children)

-- what is seen is the event's layer
abbrev pub IsOfLayer : Seen → Event → Type 0
IsOfLayer (Tree v) e = is_of_tree e ≡ true
IsOfLayer (Wave v) e = is_of_tree e ≡ false

-- some of these cases is one of these rows
abbrev pub some_among : List ℕ → List ℕ → Bool
some_among rows cases = list_any (λ case. is_among case rows) cases

-- none of these rows of the wave table but the request, row 1
abbrev pub none_but_request : List ℕ → Bool
none_but_request rows = length rows == (if is_among 1 rows then 1 else 0)

-- these are what the view says of the tree, and of the wave, with the rows that are enabled in each
pub record IsSight {L : Type 0} (v : NodeView L) (tree wave : Seen) (tree_rows wave_rows : List ℕ) : Type 0 where
  pub tree_is : tree ≡ Tree (tree_view v)
  pub wave_is : wave ≡ Wave (wave_view v)
  pub tree_rows_are : tree_rows ≡ enabled_in tree
  pub wave_rows_are : wave_rows ≡ enabled_in wave
