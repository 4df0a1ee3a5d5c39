-- The tables in print, from the rows that were printed.
use Rattle.std.specs.Prelude.{codes}
use Rattle.std.proofs.Common.{◌≡◌, ℕ, Bool, List, [], ◌∷◌, map, refl}
use Rattle.std.specs.List.{flat_map}
use Rattle.action_tables.specs.declared.row.CaseRow.{CaseRow}
use Rattle.action_tables.specs.RowText.{as_printed}
use Rattle.action_tables.specs.Table.{Row, printed, table_text}
use Rattle.tree_layer.specs.TreeTable.{LocalView as TreeView, tree_table}
use Rattle.wave_layer.specs.WaveTable.{LocalView as WaveView, wave_table}
use Rattle.app_token.specs.Token.{token_table}
use Rattle.app_token.specs.TokenLinks.{token_links}
use Rattle.app_token.specs.declared.local.TokenLocal.{TokenLocal}
use Rattle.app_mutex.specs.Mutex.{mutex_table}
use Rattle.app_mutex.specs.MutexLinks.{mutex_links}
use Rattle.app_mutex.specs.declared.local.MutexLocal.{MutexLocal}
use Rattle.app_routes.specs.Routes.{routes_table}
use Rattle.app_routes.specs.RoutesLinks.{routes_links}
use Rattle.app_routes.specs.declared.entry.Entry.{Entry}
use Rattle.reset_service.specs.Tables.{Standpoint, tables_text}

abbrev Titled : Type 0
Titled = List ℕ × List CaseRow

abbrev under : Titled → List ℕ
under table = table_text table.0 (map as_printed table.1)

-- the rows print as those of the table
abbrev Print : {E : Type 0} → List CaseRow → List (Row E) → Type 0
Print rows table = map as_printed rows ≡ map printed table

-- where the rows print as those of the eight tables, at any node and either end of any link
pub tables_text-rows : (here : Standpoint)
    (tree wave token mutex routes token_rows mutex_rows routes_rows : List CaseRow)
    → ((v : TreeView) (near : _) → Print tree (tree_table v near))
    → ((w : WaveView) (near : _) → Print wave (wave_table w near))
    → ((j : ℕ) (own : TokenLocal) (arriving : Bool) → Print token (token_table j own arriving))
    → ((own : MutexLocal) (held : Bool) → Print mutex (mutex_table own held))
    → ((bound j : ℕ) (own theirs : List Entry) → Print routes (routes_table bound j own theirs))
    → ((i j : ℕ) (own theirs : TokenLocal) → Print token_rows (token_links i j own theirs))
    → ((i j : ℕ) (own theirs : MutexLocal) → Print mutex_rows (mutex_links i j own theirs))
    → ((j : ℕ) (own theirs : List Entry) → Print routes_rows (routes_links j own theirs))
    → tables_text here
    ≡ flat_map under
    ((codes "tree", tree) ∷ (codes "wave", wave) ∷ (codes "token", token) ∷ (codes "mutex", mutex)
    ∷ (codes "routes", routes) ∷ (codes "token-links", token_rows) ∷ (codes "mutex-links", mutex_rows)
    ∷ (codes "routes-links", routes_rows) ∷ [])
unfolding tables_text
tables_text-rows here tree wave token mutex routes token_rows mutex_rows routes_rows a b c d e f g h =
    rw (
      a here.tree [],
      b here.wave [],
      c here.neighbour here.token here.arriving,
      d here.mutex here.held,
      e here.bound here.neighbour here.routes here.their_routes,
      f here.node here.neighbour here.token here.their_token,
      g here.node here.neighbour here.mutex here.their_mutex,
      h here.neighbour here.routes here.their_routes,
    )
    refl
