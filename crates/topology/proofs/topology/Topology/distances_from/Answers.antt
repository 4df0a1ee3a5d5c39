use Rattle.std.proofs.Common.{◌≡◌, ◌<◌, length, sym, subst, ◌∙◌}
use Rattle.std.proofs.lemmas.Result.{IfOk-weaker}
use Rattle.std.proofs.lemmas.List.{length-map}
use Rattle.topology.specs.Graph.{Graph}
use Rattle.topology.specs.Searching.{AreDistances}
use Rattle.topology.proofs.Inserting.{rows_of}
use Rattle.topology.proofs.Walks.{mark_tells}
use Rattle.topology.proofs.topology.Topology.distances_from.Goals as goal

pub returns-clause-distances : goal.returns-clause-distances
returns-clause-distances c =
    let near = c.self.inside.near.items in
    let ids = c.self.inside.ids.ids in
    let are = c.self.invariant in
    let within : c.args.index < length ids =
    subst (λ (g : Graph). c.args.index < length g.ids) (sym c.self.view_is) c.requires in
    let count : length near ≡ length ids = sym (length-map near (λ row. row.items)) ∙ are.tied.as_rows.count in
    rw (← c.self.view_is)
    (IfOk-weaker c.distances_to.result _ _
    (λ ds found k k_in.
    mark_tells ids c.self.inside.ids.nodes (rows_of near) are.tied.as_ids are.tied.as_rows c.args.index ds.items
    (subst (λ n. AreDistances n (rows_of near) c.args.index ds.items) count
    (subst (λ v. AreDistances (length v) (rows_of v) c.args.index ds.items) c.deref.ensures.value found)) k k_in)
    c.distances_to.ensures)
