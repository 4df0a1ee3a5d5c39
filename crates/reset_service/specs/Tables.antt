-- What the print of the tables writes.
use Rattle.std.specs.Prelude.{ℕ, Bool, List, [], ◌∷◌, codes, map}
use Rattle.std.specs.List.{concat}
use Rattle.action_tables.specs.RowText.{as_printed}
use Rattle.action_tables.specs.Table.{Row, printed, table_text}
use Rattle.tree_layer.specs.TreeTable.{LocalView as TreeView, tree_table}
use Rattle.wave_layer.specs.WaveTable.{LocalView as WaveView, wave_table}
use Rattle.app_token.specs.Token.{token_table}
use Rattle.app_token.specs.TokenLinks.{token_links}
use Rattle.app_token.specs.declared.local.TokenLocal.{TokenLocal}
use Rattle.app_mutex.specs.Mutex.{mutex_table}
use Rattle.app_mutex.specs.MutexLinks.{mutex_links}
use Rattle.app_mutex.specs.declared.local.MutexLocal.{MutexLocal}
use Rattle.app_routes.specs.Routes.{routes_table}
use Rattle.app_routes.specs.RoutesLinks.{routes_links}
use Rattle.app_routes.specs.declared.entry.Entry.{Entry}
use Rattle.reset_service.specs.declared.tables.TitledRows.{TitledRows}

-- what a node has and sees, and what is at the far end of one of its links: of these the tables ask
pub record Standpoint : Type 0 where
  pub tree : TreeView
  pub wave : WaveView
  pub node : ℕ
  pub neighbour : ℕ
  pub token : TokenLocal
  pub their_token : TokenLocal
  pub arriving : Bool
  pub mutex : MutexLocal
  pub their_mutex : MutexLocal
  pub held : Bool
  pub bound : ℕ
  pub routes : List Entry
  pub their_routes : List Entry

-- a table under its title
abbrev pub titled : {E : Type 0} → List ℕ → List (Row E) → List ℕ
titled title rows = table_text title (map printed rows)

-- the tables one after the other, as they are at a node, and those of the links at the node's end of a
-- link: a row prints the same wherever it stands
unfoldable pub tables_text : Standpoint → List ℕ
tables_text here =
    concat (titled (codes "tree") (tree_table here.tree [])
    ∷ titled (codes "wave") (wave_table here.wave [])
    ∷ titled (codes "token") (token_table here.neighbour here.token here.arriving)
    ∷ titled (codes "mutex") (mutex_table here.mutex here.held)
    ∷ titled (codes "routes") (routes_table here.bound here.neighbour here.routes here.their_routes)
    ∷ titled (codes "token-links") (token_links here.node here.neighbour here.token here.their_token)
    ∷ titled (codes "mutex-links") (mutex_links here.node here.neighbour here.mutex here.their_mutex)
    ∷ titled (codes "routes-links") (routes_links here.neighbour here.routes here.their_routes)
    ∷ [])

-- what rows print under their title
abbrev pub titled_rows_text : TitledRows → List ℕ
titled_rows_text table = table_text table.0.now (map as_printed table.1.now)
