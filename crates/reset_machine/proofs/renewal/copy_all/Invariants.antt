use Rattle.std.proofs.Common.{◌≡◌, take}
use Rattle.reset_machine.proofs.renewal.copy_all.Given as goal

-- those before the index are copied
abbrev pub invariant-loop-local : goal.invariant-loop-local
invariant-loop-local g l = l.copies.items ≡ take l.local-index l.locals
