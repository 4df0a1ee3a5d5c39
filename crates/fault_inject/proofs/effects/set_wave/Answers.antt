use Rattle.fault_inject.proofs.InjectedFaults.{wave_put, wave_strange}
use Rattle.fault_inject.proofs.effects.set_wave.Goals as goal

pub returns-in-Ok-clause-outcome : goal.returns-in-Ok-clause-outcome
returns-in-Ok-clause-outcome g c =
    wave_put g.P.Application.app g.P.Application.from_text c.args.config.now c.args.at c.args.regs _ c.in-Ok.ensures.ok.0
    c.in-Ok.ensures.ok.1

pub returns-in-Err-clause-outcome : goal.returns-in-Err-clause-outcome
returns-in-Err-clause-outcome g c =
    wave_strange g.P.Application.app g.P.Application.from_text c.args.config.now c.args.at c.args.regs c.in-Err.ensures.err.1
