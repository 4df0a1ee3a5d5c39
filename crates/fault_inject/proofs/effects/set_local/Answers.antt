use Rattle.std.proofs.Common.{◌≤◌, ◌<◌, Err, length, ap, arith, sym, ◌∙◌}
use Rattle.fault_inject.proofs.InjectedFaults.{local_bad, local_long, local_lost, local_put, local_strange}
use Rattle.fault_inject.proofs.effects.set_local.Goals as goal

pub returns-then-not-is_node-clause-outcome : goal.returns-then-not-is_node-clause-outcome
returns-then-not-is_node-clause-outcome g c =
    λ _. local_strange g.P.Application.app g.P.Application.from_text c.args.config.now c.args.at c.args.text.now
    (sym c.is_node.ensures ∙ c.if-not-is_node.true)

pub returns-then-text-gt-MAX_LOCAL-clause-outcome : goal.returns-then-text-gt-MAX_LOCAL-clause-outcome
returns-then-text-gt-MAX_LOCAL-clause-outcome g c =
    let long : 200 < length c.args.text.now = omega (arith, c.if-text-gt-MAX_LOCAL.true) in
    λ _. local_long g.P.Application.app g.P.Application.from_text c.args.config.now c.args.at c.args.text.now
    (sym c.is_node.ensures ∙ c.if-not-is_node.false) long

pub returns-in-Err-BadLocal-clause-outcome : goal.returns-in-Err-BadLocal-clause-outcome
returns-in-Err-BadLocal-clause-outcome g c =
    let short : length c.args.text.now ≤ 200 = omega (arith, c.if-text-gt-MAX_LOCAL.false) in
    λ _. local_bad g.P.Application.app g.P.Application.from_text c.args.config.now c.args.at c.args.text.now
    (sym c.is_node.ensures ∙ c.if-not-is_node.false) short
    (c.in-Err-BadLocal.ensures.bad (ap (λ f. Err f) c.in-Err-BadLocal.field-0-is))

pub returns-clause-outcome : goal.returns-clause-outcome
returns-clause-outcome g c =
    let short : length c.args.text.now ≤ 200 = omega (arith, c.if-text-gt-MAX_LOCAL.false) in
    local_put g.P.Application.app g.P.Application.from_text c.args.config.now c.args.at c.args.text.now _ _
    (sym c.is_node.ensures ∙ c.if-not-is_node.false) short
    c.in-Ok.ensures.ok c.in_default.ensures.ok.1

pub returns-in-Err-clause-outcome : goal.returns-in-Err-clause-outcome
returns-in-Err-clause-outcome g c =
    λ _. local_lost g.P.Application.app g.P.Application.from_text c.args.config.now c.args.at c.args.text.now c.in-Err.ensures.err.1
