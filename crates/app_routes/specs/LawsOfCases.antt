-- The name of the one case, and what it reads.
use Rattle.std.proofs.Common.{arith, rules}
use Rattle.std.proofs.lemmas.Grind.{common_steps}
use Rattle.app_interface.specs.Cases.{AreCases}
use Rattle.app_routes.specs.Routes.{routes_names, routes_reads}

pub routes_cases : AreCases 1 routes_names routes_reads
routes_cases = record {
  few = omega arith;
  named = λ n. search rules;
  read = λ n. search rules;
  distinct = λ m n name is also. grind (arith, common_steps);
  lettered = λ n name is. grind (arith, common_steps);
}
