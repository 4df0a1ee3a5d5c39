use Rattle.action_tables.specs.Modulus.{max_modulus}
use Rattle.topology.proofs.PlainLines.{printed_whole}
use Rattle.topology.proofs.text.lines.printed.Goals as goal

pub returns-in-Some-default-empty-clause-text : goal.returns-in-Some-default-empty-clause-text
returns-in-Some-default-empty-clause-text c =
    let nodes = c.in-Some-default-empty.nodes in
    let links = c.in-Some-2.links in
    printed_whole c.args.text.now c.in-Some.rest.now c.in-Some-2.rest.now c.in-Some-default-empty.field-0-1.now
    (record { nodes = nodes.items; links = links.items; app = c.in-Some.app; modulus = max_modulus }) c.in-Some.ensures
    (rw c.in-Some-2.is at c.in_ok-links.ensures.line) (rw c.in-Some-default-empty.is at c.in_ok-nodes.ensures.line)
    c.in-Some-default-empty.len_below
