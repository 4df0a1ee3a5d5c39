use Rattle.std.proofs.Common.{arith, []}
use Rattle.std.proofs.lemmas.Grind.{common_steps}
use Rattle.app_routes.proofs.table.case_name.Goals as goal

pub returns-in-1 : goal.returns-in-1
returns-in-1 c = let rows = c.app_rows.ensures 0 0 [] [] in grind (arith, common_steps)
