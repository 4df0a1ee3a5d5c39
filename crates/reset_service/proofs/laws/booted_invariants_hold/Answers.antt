use Rattle.reset_service.proofs.KeptRuns.{booted_invariant}
use Rattle.reset_service.proofs.laws.booted_invariants_hold.Goals as goal

-- an application's laws hold in each thread to which it may be sent: they are taken in this one
pub returns : goal.returns
returns g c =
    let laws = g.met.P.Application g.world.𝓛 g.world.𝓜 g.world.𝓡 ((λ s x. x), (λ x. x), (λ x. x), λ x. x) in
    booted_invariant g.P.Application.app g.P.Application.Inv laws.starts laws.keeps
