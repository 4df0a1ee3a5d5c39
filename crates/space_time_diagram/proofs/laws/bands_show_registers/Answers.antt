use Rattle.space_time_diagram.proofs.ShownRegisters.{registers_seen}
use Rattle.space_time_diagram.proofs.laws.bands_show_registers.Goals as goal

pub returns : goal.returns
returns g c = registers_seen g.P.Application.app g.P.Application.from_text c.replays_stay_shaped.ensures
