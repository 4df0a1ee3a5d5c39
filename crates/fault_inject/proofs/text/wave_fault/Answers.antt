use Rattle.fault_inject.proofs.FaultLines.{no_wave, wave_found}
use Rattle.fault_inject.proofs.text.wave_fault.Goals as goal

pub returns-in_err-read_number : goal.returns-in_err-read_number
returns-in_err-read_number c =
    rw c.from_residual-in_err-read_number.ensures
    (no_wave c.args.text.now c.in_ok-at.rest.now c.in_ok-phase.phase.now c.in_ok-phase.session.now c.in_ok-at.at
    c.in_ok-at.ensures.found c.in_ok-phase.ensures.found c.in_err-read_number.ensures.only)

pub returns : goal.returns
returns c = (
  (c.in_ok-at.ensures.small, c.in_ok-read_number.ensures.small),
  wave_found c.args.text.now c.in_ok-at.rest.now c.in_ok-phase.phase.now c.in_ok-phase.session.now c.in_ok-at.at
      c.in_ok-read_number.field-0 c.in_ok-phase_named.field-0
      c.in_ok-at.ensures.found c.in_ok-phase.ensures.found c.in_ok-phase_named.ensures.found
      c.in_ok-read_number.ensures.found c.in_ok-read_number.ensures.small,
)
