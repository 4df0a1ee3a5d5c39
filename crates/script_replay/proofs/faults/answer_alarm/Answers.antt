use Rattle.std.proofs.Common.{ℕ, List, sym, subst, ◌∙◌}
use Rattle.std.specs.Prelude.{OnErr, OnOk}
use Rattle.std.specs.Io.KnownBytes.{Appends}
use Rattle.action_tables.specs.Written.{AppendsPrefix}
use Rattle.applications.specs.Meaning.{meaning_of}
use Rattle.script_replay.proofs.Nodes.{alarm_node}
use Rattle.script_replay.proofs.faults.answer_alarm.Goals as goal

pub returns-then-is_node-clause-ok : goal.returns-then-is_node-clause-ok
returns-then-is_node-clause-ok g c =
    let m =
    meaning_of g.P.Application.app g.P.Application.text g.P.Application.from_text g.P.Application.names
    g.P.Invariant.counts in
    let text =
    alarm_node m c.args.config.now c.args.at c.alarm.result (sym c.is_node.ensures ∙ c.if-is_node.true)
    c.alarm.ensures.found c.alarm.ensures.none in
    let P : List ℕ → Type 0 =
    λ t. OnOk c.put_alarm.result
    (Appends (g.W.Write.contents c.args.out.now) (g.W.Write.contents c.put_alarm.new.out) t) in
    subst P (sym text) c.put_alarm.ensures.ok

pub returns-then-is_node-clause-err : goal.returns-then-is_node-clause-err
returns-then-is_node-clause-err g c =
    let m =
    meaning_of g.P.Application.app g.P.Application.text g.P.Application.from_text g.P.Application.names
    g.P.Invariant.counts in
    let text =
    alarm_node m c.args.config.now c.args.at c.alarm.result (sym c.is_node.ensures ∙ c.if-is_node.true)
    c.alarm.ensures.found c.alarm.ensures.none in
    let P : List ℕ → Type 0 =
    λ t. OnErr c.put_alarm.result
    (AppendsPrefix (g.W.Write.contents c.args.out.now) (g.W.Write.contents c.put_alarm.new.out) t) in
    subst P (sym text) c.put_alarm.ensures.err
