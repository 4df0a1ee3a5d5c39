use Rattle.space_time_diagram.proofs.Standing.{shown_where_up}
use Rattle.space_time_diagram.proofs.band.shown_of.Goals as goal

pub returns : goal.returns
returns g c =
    shown_where_up c.args.config.now c.args.node _ c.wave_at.ensures.found c.wave_at.ensures.none
