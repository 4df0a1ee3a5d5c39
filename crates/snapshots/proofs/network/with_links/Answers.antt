use Rattle.std.proofs.Common.{◌≢◌, ℕ, List, rules, subst}
use Rattle.topology.specs.Faults.{HasFault, IsGraphOf}
use Rattle.topology.specs.declared.fault.TopoFault.TheVariants.{NoMemory}
use Rattle.snapshots.proofs.Built.{no_fault}
use Rattle.snapshots.proofs.Linked.{built_ids, built_links}
use Rattle.snapshots.proofs.network.with_links.Goals as goal

pub unreachable-requires : goal.unreachable-requires
unreachable-requires c =
    let other : c.in-Err.field-0 ≢ NoMemory = search rules in
    let P : List ℕ → Type 0 = λ ids. HasFault ids c.args.links.now c.in-Err.field-0 in
    let facts = c.lemma_is_graph.ensures in
    no_fault c.args.topology.now facts.graph facts.small facts.ids c.args.links.now c.requires.links c.in-Err.field-0
    (subst P c.ids.ensures (c.in-Err.ensures.err other).fault)

pub returns-in-Ok-clause-ids : goal.returns-in-Ok-clause-ids
returns-in-Ok-clause-ids c =
    let P : List ℕ → Type 0 = λ ids. IsGraphOf ids c.args.links.now c.in-Ok.built in
    built_ids c.args.topology.now c.in-Ok.built c.args.links.now c.lemma_is_graph.ensures.graph
    (subst P c.ids.ensures c.in-Ok.ensures.ok.exact)

pub returns-in-Ok-clause-links : goal.returns-in-Ok-clause-links
returns-in-Ok-clause-links c = λ a b.
    rw c.if-not-lists_links.false
    (built_links c.ids.result.now c.args.links.now c.in-Ok.built c.in-Ok.ensures.ok.exact a b)
