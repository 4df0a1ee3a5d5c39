use Rattle.std.specs.Prelude.{length}
use Rattle.node_threads.proofs.unlocked.+audit_all.Given as goal

abbrev pub decreases-audit_all : goal.decreases-audit_all
decreases-audit_all g l = length l.seats.now
