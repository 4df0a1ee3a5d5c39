use Rattle.std.proofs.Common.{◌≡◌, ◌≢◌}
use Rattle.std.specs.Prelude.{option_map}
use Rattle.topology.specs.declared.text.ReadFault.TheVariants.{NoMemory}
use Rattle.script_replay.specs.Output.{bad_topology_text}
use Rattle.script_replay.specs.Output.IsJudged.{bad_topology, good_topology}
use Rattle.script_replay.specs.declared.status.Status.TheVariants.{BadInput}
use Rattle.reset_service.specs.Opened.{IsOpenedOf, IsOpenedText}
use Rattle.reset_service.specs.Asked.{AnswersTo}
use Rattle.script_replay.proofs.Described.{all_up}
use Rattle.reset_service.proofs.Verifying.{read_anyway, read_weaker}
use Rattle.reset_service.proofs.ByName.{opened_read}
use Rattle.reset_service.proofs.asked.verify_asked.Goals as goal

pub ask_app-requires : goal.ask_app-requires
ask_app-requires g c =
    all_up c.args.topology.now c.in-Ok.network.topology c.in-Ok.network.app c.in-Ok.network.modulus c.in-Ok.ensures.ok

pub returns-in-Ok-clause-leaves : goal.returns-in-Ok-clause-leaves
returns-in-Ok-clause-leaves g c =
    let snapshot = option_map (λ s. s.now) c.args.snapshot in
    let network = c.in-Ok.network in
    read_weaker (g.R.Read.remaining c.args.history.now)
    (λ text. IsOpenedText (AnswersTo c.args.question text) c.args.topology.now snapshot)
    (λ text. IsOpenedOf (AnswersTo c.args.question text) network.app network.topology network.modulus snapshot) _ _
    c.ask_app.result
    (λ text o is. good_topology network.topology network.app network.modulus c.in-Ok.ensures.ok is)
    (opened_read (AnswersTo c.args.question) c.in-Ok.network.app _ _ _ _ _ _ _ c.ask_app.ensures.leaves)

pub returns-in-Err-clause-leaves : goal.returns-in-Err-clause-leaves
returns-in-Err-clause-leaves g c =
    let snapshot = option_map (λ s. s.now) c.args.snapshot in
    read_anyway (g.R.Read.remaining c.args.history.now)
    (λ text. IsOpenedText (AnswersTo c.args.question text) c.args.topology.now snapshot)
    (λ o. (c.in-Err.fault ≢ NoMemory) × (o ≡ (bad_topology_text c.in-Err.fault, BadInput))) _ _
    c.refuse_topology.result
    (λ text o is. bad_topology c.in-Err.fault (c.in-Err.ensures.err is.0) is.1) c.refuse_topology.ensures.leaves
