use Rattle.action_tables.specs.Modulus.{max_modulus}
use Rattle.topology.proofs.PlainLines.{documented_whole}
use Rattle.topology.proofs.text.lines.documented.Goals as goal

pub returns-in-Some-default-empty-clause-text : goal.returns-in-Some-default-empty-clause-text
returns-in-Some-default-empty-clause-text c =
    let nodes = c.in-Some.nodes in
    let links = c.in-Some-2.links in
    let app = c.in-Some-default-empty.app in
    documented_whole c.args.text.now c.in-Some.rest.now c.in-Some-2.rest.now c.in-Some-default-empty.field-0-1.now
    (record { nodes = nodes.items; links = links.items; app = app; modulus = max_modulus }) (rw c.in-Some.is at c.in_ok-nodes.ensures.line)
    (rw c.in-Some-2.is at c.in_ok-links.ensures.line) c.in-Some-default-empty.ensures
    c.in-Some-default-empty.len_below
