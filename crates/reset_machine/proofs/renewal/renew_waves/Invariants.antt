use Rattle.wave_layer.specs.declared.regs.Phase.TheVariants.{Normal}
use Rattle.reset_model.specs.Topologies.{comes_up}
use Rattle.reset_machine.proofs.Renewing.{AreRenewed}
use Rattle.reset_machine.proofs.renewal.renew_waves.Given as goal

abbrev pub invariant-loop-index : goal.invariant-loop-index
invariant-loop-index l =
    AreRenewed (comes_up l.old l.new) (λ _. record { phase = Normal; session = 0 }) l.new.ids l.index l.initial.waves
    l.waves
