-- What a pull leaves for each destination.
use Rattle.std.specs.Prelude.{ℕ, if◌then◌else◌, List, Option, Some, None}
use Rattle.app_routes.specs.Entries.{is_better, over, route_of}
use Rattle.app_routes.specs.declared.entry.Entry.{Entry}

-- the entry for d after a pull from j, whose entry for d is the one that is given: the way over j where
-- that is better, and else the own one
abbrev pub route_after : ℕ → ℕ → List Entry → ℕ → Option Entry → Option Entry
route_after K j own d None = route_of own d
route_after K j own d (Some e) = if is_better K own e then Some (over j e) else route_of own d
