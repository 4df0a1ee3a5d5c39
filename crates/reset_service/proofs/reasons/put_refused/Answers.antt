use Rattle.std.proofs.Common.{◌≡◌, ◌++◌, Err, List, Option, subst, sym, ℕ}
use Rattle.std.specs.Io.KnownBytes.{Appends}
use Rattle.std.proofs.KnownBytes.{Appends-trans}
use Rattle.topology.specs.Graph.{node_bound}
use Rattle.action_tables.specs.Written.{AppendsPrefix}
use Rattle.action_tables.proofs.Prefixes.{AppendsPrefix-first, AppendsPrefix-then, OnErr-always}
use Rattle.reset_model.specs.Configuration.{tree_of, wave_of}
use Rattle.reset_model.specs.LocalSteps.{tree_view_of, view_of}
use Rattle.reset_model.specs.Planned.{Outcome, outcome_of}
use Rattle.reset_model.specs.Steps.{event_node}
use Rattle.reset_model.specs.declared.step.StepRefusal.TheVariants.{NotEnabled}
use Rattle.script_replay.specs.Output.{refusal_text}
use Rattle.reset_service.specs.Reasons.{action_guard, case_name, guards_text, refused_text}
use Rattle.reset_service.proofs.reasons.put_refused.Goals as goal

pub returns-in_err-put_not_met-in-Err-NotEnabled-clause-err :
    goal.returns-in_err-put_not_met-in-Err-NotEnabled-clause-err
returns-in_err-put_not_met-in-Err-NotEnabled-clause-err g c =
    let here = c.args.config.now in
    let e = c.args.event in
    let i = event_node e in
    let names = g.P.Application.names in
    let outcome : outcome_of g.P.Application.app here e ≡ Err NotEnabled =
    subst (λ f. outcome_of g.P.Application.app here e ≡ Err f) c.in-Err-NotEnabled.field-0-is
    (c.in-Err-NotEnabled.ensures.outcome (λ memory. cc)) in
    let P : Outcome g.row.P-Local.Denot → Type 0 =
    λ o. AppendsPrefix (g.W.Write.contents c.args.out.now) (g.W.Write.contents c.put_not_met.new.out)
    (refused_text names here e o) in
    OnErr-always _ _
    (subst P (sym outcome)
    (AppendsPrefix-first _ _ (refusal_text NotEnabled ++ guards_text here e) (action_guard (case_name names e))
    (c.in_err-put_not_met-in-Err-NotEnabled.ensures.err
    (tree_view_of here.graph (node_bound here.graph) (tree_of here) i)
    (view_of here.graph here.modulus (tree_of here) (wave_of here) i))))

pub returns-in_err-put_action_guard-in-Err-NotEnabled-clause-err :
    goal.returns-in_err-put_action_guard-in-Err-NotEnabled-clause-err
returns-in_err-put_action_guard-in-Err-NotEnabled-clause-err g c =
    let here = c.args.config.now in
    let e = c.args.event in
    let i = event_node e in
    let names = g.P.Application.names in
    let a = g.W.Write.contents c.args.out.now in
    let b = g.W.Write.contents c.put_not_met.new.out in
    let d = g.W.Write.contents c.put_action_guard.new.out in
    let outcome : outcome_of g.P.Application.app here e ≡ Err NotEnabled =
    subst (λ f. outcome_of g.P.Application.app here e ≡ Err f) c.in-Err-NotEnabled.field-0-is
    (c.in-Err-NotEnabled.ensures.outcome (λ memory. cc)) in
    let P : Outcome g.row.P-Local.Denot → Type 0 = λ o. AppendsPrefix a d (refused_text names here e o) in
    OnErr-always _ _
    (subst P (sym outcome)
    (AppendsPrefix-then a b d (refusal_text NotEnabled ++ guards_text here e) (action_guard (case_name names e))
    (c.in_ok-put_not_met-in-Err-NotEnabled.ensures.ok
    (tree_view_of here.graph (node_bound here.graph) (tree_of here) i)
    (view_of here.graph here.modulus (tree_of here) (wave_of here) i))
    (subst (λ (o : Option (List ℕ)). AppendsPrefix b d (action_guard o)) c.case_name.ensures
    c.in_err-put_action_guard-in-Err-NotEnabled.ensures.err)))

pub returns-in_ok-put_action_guard-in-Err-NotEnabled-clause-ok :
    goal.returns-in_ok-put_action_guard-in-Err-NotEnabled-clause-ok
returns-in_ok-put_action_guard-in-Err-NotEnabled-clause-ok g c =
    let here = c.args.config.now in
    let e = c.args.event in
    let i = event_node e in
    let names = g.P.Application.names in
    let a = g.W.Write.contents c.args.out.now in
    let b = g.W.Write.contents c.put_not_met.new.out in
    let d = g.W.Write.contents c.put_action_guard.new.out in
    let outcome : outcome_of g.P.Application.app here e ≡ Err NotEnabled =
    subst (λ f. outcome_of g.P.Application.app here e ≡ Err f) c.in-Err-NotEnabled.field-0-is
    (c.in-Err-NotEnabled.ensures.outcome (λ memory. cc)) in
    let P : Outcome g.row.P-Local.Denot → Type 0 = λ o. Appends a d (refused_text names here e o) in
    subst P (sym outcome)
    (Appends-trans a b d (refusal_text NotEnabled ++ guards_text here e) (action_guard (case_name names e))
    (c.in_ok-put_not_met-in-Err-NotEnabled.ensures.ok
    (tree_view_of here.graph (node_bound here.graph) (tree_of here) i)
    (view_of here.graph here.modulus (tree_of here) (wave_of here) i))
    (subst (λ (o : Option (List ℕ)). Appends b d (action_guard o)) c.case_name.ensures
    c.in_ok-put_action_guard-in-Err-NotEnabled.ensures.ok))
