use Rattle.std.proofs.Common.{◌∙◌, ◌∷◌, ◌++◌, ◌-◌, ap, decimal, drop, length, rules, take}
use Rattle.action_tables.specs.LawsOfCuts.{begins_with}
use Rattle.topology.proofs.PlainLines.{last_one}
use Rattle.topology.proofs.text.lines.numbers.Goals as goal

pub returns-in-Some-default-eq10-clause-items : goal.returns-in-Some-default-eq10-clause-items
returns-in-Some-default-eq10-clause-items c =
    let last = c.in-Some-default-eq10.last in
    let behind = c.in-Some-default-eq10.field-0-1.now in
    let next = take (length behind - 1) (drop 1 behind) in
    let ends = begins_with behind 10 c.in-Some-default-eq10.len_at_least (search rules) in
    rw c.in_ok-push-in-Some-default-eq10.ensures.items
    (last_one decimal c.args.text.now c.loop-number.rest.now next c.loop-number.numbers.items last
    c.loop-number.invariant.0 (c.in-Some-default-eq10.ensures.found ∙ ap (λ t. decimal last ++ 93 ∷ t) ends))
