use Rattle.history.proofs.Plays.{played_none}
use Rattle.history.proofs.player.Player.new.Goals as goal

pub returns-clause-played : goal.returns-clause-played
returns-clause-played g c = rw c.new-2.ensures.items (played_none g.P.Application.app g.P.Application.from_text
    c.args.config _ c.new.ensures.none c.new.ensures.within)
