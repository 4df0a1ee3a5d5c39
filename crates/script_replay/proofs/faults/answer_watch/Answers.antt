use Rattle.std.proofs.Common.{refl, sym, ◌∙◌}
use Rattle.script_replay.proofs.Nodes.{node_of}
use Rattle.script_replay.proofs.Written.{written_err, written_ok}
use Rattle.script_replay.proofs.faults.answer_watch.Goals as goal

pub watch_node-requires-after_bounds : goal.watch_node-requires-after_bounds
watch_node-requires-after_bounds g c κs within =
    node_of c.args.config.now c.args.at (sym c.is_node.ensures ∙ c.if-is_node.true)

pub returns-else-is_node-clause-ok : goal.returns-else-is_node-clause-ok
returns-else-is_node-clause-ok g c =
    rw (sym c.is_node.ensures ∙ c.if-is_node.false)
    (written_ok c.put_refusal.result c.written.result c.written.ensures.ok c.written.ensures.err (λ text. (refl, text))
    c.put_refusal.ensures.ok)

pub returns-else-is_node-clause-err : goal.returns-else-is_node-clause-err
returns-else-is_node-clause-err g c =
    rw (sym c.is_node.ensures ∙ c.if-is_node.false)
    (written_err c.put_refusal.result c.written.result c.written.ensures.ok c.written.ensures.err _
    c.put_refusal.ensures.err)

pub returns-then-is_node-clause-ok : goal.returns-then-is_node-clause-ok
returns-then-is_node-clause-ok g c = rw (sym c.is_node.ensures ∙ c.if-is_node.true) c.watch_node.ensures.ok

pub returns-then-is_node-clause-err : goal.returns-then-is_node-clause-err
returns-then-is_node-clause-err g c = rw (sym c.is_node.ensures ∙ c.if-is_node.true) c.watch_node.ensures.err

pub returns-else-is_node-clause-fault : goal.returns-else-is_node-clause-fault
returns-else-is_node-clause-fault g c = rw (sym c.is_node.ensures ∙ c.if-is_node.false) (λ failed. refl)

pub returns-then-is_node-clause-fault : goal.returns-then-is_node-clause-fault
returns-then-is_node-clause-fault g c = rw (sym c.is_node.ensures ∙ c.if-is_node.true) c.watch_node.ensures.fault
