use Rattle.topology.specs.Graph.{node_bound}
use Rattle.reset_model.specs.Configuration.{local_of, wave_of}
use Rattle.reset_machine.specs.Enabled.{is_taken}
use Rattle.reset_machine.proofs.CaseArguments.{AreTaken}
use Rattle.reset_machine.proofs.enabled.enabled_acts.Given as goal

-- of the cases before this one those that are taken are in the set
abbrev pub invariant-loop-case : goal.invariant-loop-case
invariant-loop-case g l =
    let app = g.P.Application.app in
    let config = l.place.config in
    AreTaken (is_taken app config.graph (node_bound config.graph) (wave_of config) (local_of app config) l.place.id)
    l.case l.acts
