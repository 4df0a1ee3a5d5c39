use Rattle.reset_model.specs.Topologies.{comes_up}
use Rattle.reset_machine.proofs.Renewing.{AreRenewed}
use Rattle.reset_machine.proofs.renewal.renewed_locals.Given as goal

abbrev pub invariant-loop-index : goal.invariant-loop-index
invariant-loop-index g l =
    AreRenewed (comes_up l.old l.new) (g.P.Application.app.start l.new) l.new.ids l.index l.locals l.after.items
