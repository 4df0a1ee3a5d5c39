use Rattle.link_predicates.proofs.Faultless.{silent, sound}
use Rattle.link_predicates.proofs.laws.faultless_is_sound.Goals as goal

pub returns : goal.returns
returns g c = λ config graph. (sound g.P.Application.app config graph, silent g.P.Application.app config graph)
