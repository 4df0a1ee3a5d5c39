use Rattle.app_routes.specs.LawsOfEntries.{found}
use Rattle.app_routes.proofs.laws.entries_are_found.Goals as goal

pub returns : goal.returns
returns c = λ es e are at. found es are.ascending e at
