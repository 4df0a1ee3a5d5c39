use Rattle.std.proofs.Common.{◌≡◌, drop}
use Rattle.app_interface.specs.Views.{seen_values}
use Rattle.app_mutex.specs.Mutex.{holds_turns}
use Rattle.app_mutex.proofs.table.holds_turns.Given as goal

-- the turns are held exactly where those of the links to the neighbours that are left are held
abbrev pub invariant-loop-near : goal.invariant-loop-near
invariant-loop-near l =
    holds_turns l.id l.bit (seen_values (drop l.near-index l.seen)) ≡ holds_turns l.id l.bit (seen_values l.seen)
