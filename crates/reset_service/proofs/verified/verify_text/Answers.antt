use Rattle.std.proofs.Common.{◌≡◌, ◌≢◌}
use Rattle.topology.specs.declared.text.ReadFault.TheVariants.{NoMemory}
use Rattle.script_replay.specs.Output.{bad_topology_text}
use Rattle.script_replay.specs.Output.IsJudged.{bad_topology, good_topology}
use Rattle.reset_service.specs.Verified.{IsVerification, IsVerifiedFrom, IsVerifiedOf}
use Rattle.script_replay.specs.declared.status.Status.TheVariants.{BadInput}
use Rattle.reset_service.proofs.Verifying.{read_anyway, read_weaker}
use Rattle.reset_service.proofs.ByName.{read_for}
use Rattle.reset_service.proofs.verified.verify_text.Goals as goal

pub returns-in-Ok-clause-leaves : goal.returns-in-Ok-clause-leaves
returns-in-Ok-clause-leaves g c =
    read_weaker (g.R.Read.remaining c.args.history.now) (IsVerification c.args.topology.now)
    (IsVerifiedOf c.in-Ok.network.app c.in-Ok.network.topology c.in-Ok.network.modulus) _ _ c.verify_app.result
    (λ text o is. good_topology c.in-Ok.network.topology c.in-Ok.network.app c.in-Ok.network.modulus
    c.in-Ok.ensures.ok is)
    (read_for (λ L m. IsVerifiedFrom m c.in-Ok.network.topology c.in-Ok.network.modulus) c.in-Ok.network.app _ _ _ _
    c.verify_app.ensures.leaves)

pub returns-in-Err-clause-leaves : goal.returns-in-Err-clause-leaves
returns-in-Err-clause-leaves g c =
    read_anyway (g.R.Read.remaining c.args.history.now) (IsVerification c.args.topology.now)
    (λ o. (c.in-Err.fault ≢ NoMemory) × (o ≡ (bad_topology_text c.in-Err.fault, BadInput))) _ _
    c.refuse_topology.result
    (λ text o is. bad_topology c.in-Err.fault (c.in-Err.ensures.err is.0) is.1) c.refuse_topology.ensures.leaves
