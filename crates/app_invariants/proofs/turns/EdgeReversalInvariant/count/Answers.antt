use Rattle.std.proofs.Common.{◌∙◌, ap, get_or, map}
use Rattle.std.specs.List.{count_by}
use Rattle.app_invariants.specs.LackedTurns.{is_in_without}
use Rattle.app_invariants.proofs.TurnCounts.{in_without_part}
use Rattle.app_invariants.proofs.turns.EdgeReversalInvariant.count.Goals as goal

pub returns : goal.returns
returns c =
    let g = c.args.topology.now in
    λ v are.
    c.in_without.ensures v are
    ∙ ap (λ ks. count_by (is_in_without g v) (map (λ k. get_or g.ids k 0) ks)) c.as_slice.ensures.value
    ∙ ap (count_by (is_in_without g v)) c.in_ok-members.ensures.nodes
    ∙ in_without_part g c.args.at c.lemma_is_graph.ensures.graph c.requires.node v
