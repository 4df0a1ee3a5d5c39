use Rattle.std.proofs.Common.{◌≡◌, refl, rules}
use Rattle.std.specs.Prelude.{IsErrAnd}
use Rattle.reset_service.specs.Tables.{tables_text}
use Rattle.script_replay.specs.declared.status.Status.TheVariants.{Good}
use Rattle.script_replay.specs.declared.status.RunStop.TheVariants.{WriteFailed}
use Rattle.script_replay.proofs.Runs.{leaves_fault}
use Rattle.reset_service.proofs.TableRuns.{tables_text-rows}
use Rattle.reset_service.proofs.tables.print_tables.Goals as goal

pub returns-in_err-print_all-clause-leaves : goal.returns-in_err-print_all-clause-leaves
returns-in_err-print_all-clause-leaves g c here =
    let stop : IsErrAnd c.from_residual.result (λ s. s ≡ WriteFailed) = search (rules, c.from_residual.ensures) in
    let text =
    tables_text-rows here _ _ _ _ _ _ _ _ c.tree_rows-tree.ensures c.wave_rows-wave.ensures
    c.app_rows-token.ensures c.app_rows-mutex.ensures c.app_rows-routes.ensures c.link_rows-token_links.ensures
    c.link_rows-mutex_links.ensures c.link_rows-routes_links.ensures
    in
    leaves_fault (λ output. output ≡ (tables_text here, Good)) _ _ c.from_residual.result stop
    ((tables_text here, Good), refl, rw text c.in_err-print_all.ensures.err)

pub returns-clause-leaves : goal.returns-clause-leaves
returns-clause-leaves g c here =
    let text =
    tables_text-rows here _ _ _ _ _ _ _ _ c.tree_rows-tree.ensures c.wave_rows-wave.ensures
    c.app_rows-token.ensures c.app_rows-mutex.ensures c.app_rows-routes.ensures c.link_rows-token_links.ensures
    c.link_rows-mutex_links.ensures c.link_rows-routes_links.ensures
    in
    (tables_text here, refl, rw text c.in_ok-print_all.ensures.ok)
