use Rattle.std.proofs.Common.{arith, true, []}
use Rattle.std.proofs.lemmas.Grind.{common_steps}
use Rattle.app_token.specs.declared.local.TokenLocal.{TokenLocal}
use Rattle.app_token.proofs.table.case_name.Goals as goal

-- a node, to name the table's rows by
some_local : TokenLocal
some_local = record { hold = true; given = []; taken = [] }

pub returns-in-1 : goal.returns-in-1
returns-in-1 c = let rows = c.app_rows.ensures 0 some_local true in grind (arith, common_steps)

pub returns-in-2 : goal.returns-in-2
returns-in-2 c = let rows = c.app_rows.ensures 0 some_local true in grind (arith, common_steps)
