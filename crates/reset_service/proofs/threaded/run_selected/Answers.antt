use Rattle.std.proofs.Common.{◌≢◌, rules}
use Rattle.std.specs.Prelude.{option_map}
use Rattle.topology.specs.declared.text.ReadFault.TheVariants.{NoMemory}
use Rattle.script_replay.proofs.Described.{all_up}
use Rattle.reset_service.specs.Opened.{IsOpenedFrom}
use Rattle.reset_service.specs.Selected.{RunsSelected}
use Rattle.reset_service.specs.Threaded.{told_history, told_output}
use Rattle.reset_service.proofs.ByName.{told_for}
use Rattle.reset_service.proofs.Selecting.{told_selected, unselected}
use Rattle.reset_service.proofs.threaded.run_selected.Goals as goal

pub run_app-requires : goal.run_app-requires
run_app-requires g c =
    let up = all_up c.args.topology.now c.in-Ok.network.topology c.in-Ok.network.app c.in-Ok.network.modulus
    c.in-Ok.ensures.ok in
    (search rules, up)

pub returns-in-Ok-clause-ok : goal.returns-in-Ok-clause-ok
returns-in-Ok-clause-ok g c =
    told_selected c.args.run c.args.topology.now (option_map (λ s. s.now) c.args.snapshot) c.in-Ok.network.topology
    c.in-Ok.network.app c.in-Ok.network.modulus c.in-Ok.ensures.ok c.run_app.result
    (told_for
    (λ L m told. IsOpenedFrom m c.in-Ok.network.topology c.in-Ok.network.modulus (option_map (λ s. s.now) c.args.snapshot)
    (RunsSelected c.args.run (told_history told) L m) (told_output told)) c.in-Ok.network.app c.run_app.result
    c.run_app.ensures.ok)
    c.run_app.ensures.unkept

pub returns-in-Err-clause-ok : goal.returns-in-Err-clause-ok
returns-in-Err-clause-ok g c =
    let memory : c.in-Err.fault ≢ NoMemory = search rules in
    unselected c.args.run c.args.topology.now (option_map (λ s. s.now) c.args.snapshot) c.in-Err.fault
    (c.in-Err.ensures.err memory)
