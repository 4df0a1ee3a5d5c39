use Rattle.std.proofs.Common.{map, get_or, sym, ap, ◌∙◌, subst}
use Rattle.std.specs.List.{sum_by}
use Rattle.topology.proofs.Inserting.{rows_of}
use Rattle.app_invariants.specs.Parities.{AreTables}
use Rattle.app_invariants.specs.Prepared.{ArePrepared}
use Rattle.app_invariants.specs.WrongEntries.{wrong_at}
use Rattle.app_invariants.proofs.RouteCounts.{part_members, wrong_of_part}
use Rattle.app_invariants.proofs.routes.RoutesInvariant.count.Goals as goal

pub wrong_entries-requires : goal.wrong_entries-requires
wrong_entries-requires c =
    let g = c.args.topology.now in
    let members = c.in_ok-members.members.items in
    let tables = c.in_ok-tables.tables.items in
    let states = c.args.states.now in
    let are = c.in_ok-members.ensures in
    let ready : ArePrepared g members (rows_of tables) states =
    record {
      are_members = part_members g c.lemma_is_graph.ensures.graph c.args.at c.requires.node members are.nodes are.within are.few;
      are_tables = subst (λ ms. AreTables g ms (rows_of tables)) c.as_slice.ensures.value c.in_ok-tables.ensures;
      count = c.requires.states;
    } in
    subst (λ ms. ArePrepared g ms (rows_of c.as_slice-3.result.now) states) (sym c.as_slice-2.ensures.value)
    (subst (λ ts. ArePrepared g members (rows_of ts) states) (sym c.as_slice-3.ensures.value) ready)

pub returns : goal.returns
returns c =
    λ v are.
    let g = c.args.topology.now in
    c.wrong_entries.ensures v are
    ∙ ap (λ ks. sum_by (wrong_at g v) (map (λ k. get_or g.ids k 0) ks)) c.as_slice-2.ensures.value
    ∙ ap (sum_by (wrong_at g v)) c.in_ok-members.ensures.nodes
    ∙ wrong_of_part g c.args.at c.lemma_is_graph.ensures.graph c.requires.node v
