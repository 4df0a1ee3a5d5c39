use Rattle.std.proofs.Common.{sym, ◌∙◌, arith}
use Rattle.topology.specs.Graph.{node_bound}
use Rattle.reset_model.specs.Configuration.{local_of, wave_of}
use Rattle.reset_machine.specs.Enabled.{is_taken}
use Rattle.reset_machine.proofs.CaseArguments.{taken_first, taken_more, taken_same, taken_all}
use Rattle.reset_machine.proofs.enabled.enabled_acts.Goals.{then-branch, else-branch}
use Rattle.reset_machine.proofs.enabled.enabled_acts.Goals as goal

pub loop-case-init : goal.loop-case-init
loop-case-init g c =
    let app = g.P.Application.app in
    let config = c.args.place.now.config in
    taken_first
    (is_taken app config.graph (node_bound config.graph) (wave_of config) (local_of app config) c.args.place.now.id)
    c.empty-acts.result c.empty-acts.ensures

pub loop-case-preserved : goal.loop-case-preserved
loop-case-preserved g c =
    let app = g.P.Application.app in
    let config = c.args.place.now.config in
    let taken =
    is_taken app config.graph (node_bound config.graph) (wave_of config) (local_of app config) c.args.place.now.id
    in
    elim c.if-branch.branch [
      | then-branch v ↦ taken_more taken c.loop-case.case c.loop-case.acts c.if-branch.acts (omega arith)
          (sym c.in_ok-is_enabled.ensures ∙ v.if-branch.true) (v.acts-is ∙ v.with-acts.ensures) c.loop-case.invariant
      | else-branch v ↦ rw v.acts-is
          (taken_same taken c.loop-case.case c.loop-case.acts (omega arith)
          (sym c.in_ok-is_enabled.ensures ∙ v.if-branch.false) c.loop-case.invariant)
    ]

pub returns : goal.returns
returns g c =
    let app = g.P.Application.app in
    let config = c.args.place.now.config in
    taken_all
    (is_taken app config.graph (node_bound config.graph) (wave_of config) (local_of app config) c.args.place.now.id)
    c.loop-case.case c.loop-case.acts (omega arith) c.loop-case.invariant
