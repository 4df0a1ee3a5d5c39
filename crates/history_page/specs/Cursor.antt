-- What the clauses of private functions cite.
use Rattle.std.specs.Prelude.{ℕ, ◌==◌, if◌then◌else◌, List, [], ◌∷◌}
use Rattle.history.specs.declared.entry.Report.{Report}

-- how many of these reports, which are in order, are of the entry at this position
abbrev pub told_count : ℕ → List Report → ℕ
told_count place [] = 0
told_count place (r ∷ rs) = if r.finished == place then 1 else 0
