use Rattle.std.proofs.Common.{◌∙◌, ◌++◌, ◌-◌, ap, drop, length, rules, take}
use Rattle.topology.specs.TopologyTable.{link_text}
use Rattle.topology.proofs.PlainLines.{begins_with_two, last_one}
use Rattle.topology.proofs.text.lines.links.Goals as goal

pub returns-in-93-clause-items : goal.returns-in-93-clause-items
returns-in-93-clause-items c =
    let behind = c.in-Some.behind.now in
    let next = take (length behind - 2) (drop 2 behind) in
    let ends = begins_with_two behind 93 10 c.in-93.len_at_least (search rules) (search rules) in
    rw c.in_ok-push.ensures.items
    (last_one link_text c.args.text.now c.loop-ends.rest.now next c.loop-ends.links.items c.in-Some.ends
    c.loop-ends.invariant.0 (c.in-Some.ensures.text ∙ ap (λ t. link_text c.in-Some.ends ++ t) ends))
