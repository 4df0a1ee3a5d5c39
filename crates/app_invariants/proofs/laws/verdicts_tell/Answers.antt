use Rattle.app_invariants.proofs.Telling.{verdict_tells}
use Rattle.app_invariants.proofs.laws.verdicts_tell.Goals as goal

-- an application's laws hold in each thread to which it may be sent: they are taken in this one
pub returns : goal.returns
returns g c =
    let laws = g.met.P.Application g.world.𝓛 g.world.𝓜 g.world.𝓡 ((λ s x. x), (λ x. x), (λ x. x), λ x. x) in
    let own = g.met.P.Invariant g.world.𝓛 g.world.𝓜 g.world.𝓡 ((λ s x. x), (λ x. x), (λ x. x), λ x. x) in
    verdict_tells g.P.Application.app g.P.Application.Inv g.P.Invariant.counts laws.keeps own.decides
