use Rattle.std.proofs.Common.{◌<◌, length, subst, sym}
use Rattle.topology.specs.Graph.{Graph}
use Rattle.topology.proofs.RowLemmas.{row_neighbours, row_within, row_ascends}
use Rattle.topology.proofs.topology.Topology.neighbours.Goals as goal

pub returns-clause-ids : goal.returns-clause-ids
returns-clause-ids c =
    let are = c.self.invariant in
    let within : c.args.index < length c.self.inside.ids.ids =
    subst (λ (g : Graph). c.args.index < length g.ids) (sym c.self.view_is) c.requires in
    rw (c.as_slice.ensures.value, ← c.self.view_is)
    (row_neighbours _ _ are.tied.as_rows c.args.index c.index.result.now within c.index.ensures are.tied.as_ids.ascending)

pub returns-clause-within : goal.returns-clause-within
returns-clause-within c =
    let within : c.args.index < length c.self.inside.ids.ids =
    subst (λ (g : Graph). c.args.index < length g.ids) (sym c.self.view_is) c.requires in
    rw (c.as_slice.ensures.value, ← c.self.view_is)
    (row_within _ _ c.self.invariant.tied.as_rows c.args.index c.index.result.now within c.index.ensures)

pub returns-clause-ascending : goal.returns-clause-ascending
returns-clause-ascending c =
    let within : c.args.index < length c.self.inside.ids.ids =
    subst (λ (g : Graph). c.args.index < length g.ids) (sym c.self.view_is) c.requires in
    rw c.as_slice.ensures.value
    (row_ascends _ _ c.self.invariant.tied.as_rows c.args.index c.index.result.now within c.index.ensures)
