-- The names of the two cases, and what they read.
use Rattle.std.proofs.Common.{arith, rules}
use Rattle.std.proofs.lemmas.Grind.{common_steps}
use Rattle.app_interface.specs.Cases.{AreCases}
use Rattle.app_mutex.specs.Mutex.{mutex_names, mutex_reads}

pub mutex_cases : AreCases 2 mutex_names mutex_reads
mutex_cases = record {
  few = omega arith;
  named = λ n. search rules;
  read = λ n. search rules;
  distinct = λ m n name is also. grind (arith, common_steps);
  lettered = λ n name is. grind (arith, common_steps);
}
