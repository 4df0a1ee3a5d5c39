use Rattle.std.proofs.Common.{sym, ◌∙◌, ap, arith}
use Rattle.script_replay.specs.Script.{is_called}
use Rattle.script_replay.proofs.CaseNames.{named_first, named_here, named_later, named_nowhere}
use Rattle.script_replay.proofs.script.case_called.Goals as goal

pub loop-case-init : goal.loop-case-init
loop-case-init g c = named_first g.P.Application.names c.args.word.now

pub returns-then-is_called : goal.returns-then-is_called
returns-then-is_called g c =
    let is =
    ap (λ name. is_called name c.args.word.now) (sym c.case_name.ensures) ∙ sym c.is_called.ensures
    ∙ c.if-is_called.true in
    sym (named_here g.P.Application.names c.args.word.now c.loop-case.case (omega arith) is) ∙ c.loop-case.invariant

pub loop-case-preserved : goal.loop-case-preserved
loop-case-preserved g c =
    let is =
    ap (λ name. is_called name c.args.word.now) (sym c.case_name.ensures) ∙ sym c.is_called.ensures
    ∙ c.if-is_called.false in
    sym (named_later g.P.Application.names c.args.word.now c.loop-case.case (omega arith) is) ∙ c.loop-case.invariant

pub returns : goal.returns
returns g c =
    sym (named_nowhere g.P.Application.names c.args.word.now c.loop-case.case (omega arith)) ∙ c.loop-case.invariant
