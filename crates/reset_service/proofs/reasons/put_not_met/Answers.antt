use Rattle.std.proofs.Common.{◌++◌, if◌then◌else◌}
use Rattle.std.proofs.KnownBytes.{Appends-trans}
use Rattle.std.proofs.lemmas.Result.{on_err_weaker, on_ok_weaker}
use Rattle.action_tables.specs.Written.{AppendsPrefix}
use Rattle.action_tables.proofs.Prefixes.{AppendsPrefix-first, AppendsPrefix-then, OnErr-always}
use Rattle.tree_layer.specs.TreeTable.{LocalView as TreeView}
use Rattle.wave_layer.specs.WaveTable.{LocalView as WaveView}
use Rattle.reset_model.specs.Steps.{is_of_tree}
use Rattle.reset_model.specs.declared.plan.Seen.TheVariants.{Tree, Wave}
use Rattle.reset_model.specs.declared.step.StepRefusal.TheVariants.{NotEnabled}
use Rattle.script_replay.specs.Output.{refusal_text}
use Rattle.reset_service.specs.Reasons.{guards_of}
use Rattle.reset_service.proofs.reasons.put_not_met.Goals as goal

pub returns-in_err-put_refusal-clause-err : goal.returns-in_err-put_refusal-clause-err
returns-in_err-put_refusal-clause-err g c =
    let wrote : (v : TreeView) (w : WaveView)
    → AppendsPrefix (g.W.Write.contents c.args.out.now) (g.W.Write.contents c.put_refusal.new.out)
    (refusal_text NotEnabled ++ guards_of (if is_of_tree c.args.event then Tree v else Wave w) c.args.event) =
    λ v w. AppendsPrefix-first _ _ (refusal_text NotEnabled)
    (guards_of (if is_of_tree c.args.event then Tree v else Wave w) c.args.event) c.in_err-put_refusal.ensures.err in
    OnErr-always _ _ wrote

pub returns-clause-ok : goal.returns-clause-ok
returns-clause-ok g c =
    on_ok_weaker c.put_guards.result
    (λ wrote v w. Appends-trans _ _ _ (refusal_text NotEnabled)
    (guards_of (if is_of_tree c.args.event then Tree v else Wave w) c.args.event) c.in_ok-put_refusal.ensures.ok
    (wrote v w)) c.put_guards.ensures.ok

pub returns-clause-err : goal.returns-clause-err
returns-clause-err g c =
    on_err_weaker c.put_guards.result
    (λ wrote v w. AppendsPrefix-then _ _ _ (refusal_text NotEnabled)
    (guards_of (if is_of_tree c.args.event then Tree v else Wave w) c.args.event) c.in_ok-put_refusal.ensures.ok
    (wrote v w)) c.put_guards.ensures.err
