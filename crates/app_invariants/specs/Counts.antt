-- What is counted of each application, and the number where its invariant holds.
use Rattle.std.specs.Prelude.{List, codes}
use Rattle.app_mutex.specs.declared.local.MutexLocal.{MutexLocal}
use Rattle.app_routes.specs.declared.entry.Entry.{Entry}
use Rattle.app_token.specs.declared.local.TokenLocal.{TokenLocal}
use Rattle.app_invariants.specs.LackedTurns.{in_without_count}
use Rattle.app_invariants.specs.Tokens.{token_count}
use Rattle.app_invariants.specs.Verdicts.{Count}
use Rattle.app_invariants.specs.WrongEntries.{wrong_entries}

abbrev pub idle_count : Count (Unit {0})
idle_count = record { words = codes "faults"; right = 0; number = λ g v. 0 }

abbrev pub tokens : Count TokenLocal
tokens = record { words = codes "tokens"; right = 1; number = token_count }

abbrev pub turns_lacked : Count MutexLocal
turns_lacked = record { words = codes "in without its turn"; right = 0; number = in_without_count }

abbrev pub ways_lacked : Count (List Entry)
ways_lacked = record { words = codes "routes without a way"; right = 0; number = wrong_entries }
