use Rattle.std.proofs.Common.{◌∙◌, ap, get_or, map}
use Rattle.std.specs.List.{sum_by}
use Rattle.app_invariants.specs.Tokens.{tokens_at}
use Rattle.app_invariants.proofs.TokenSums.{tokens_of_part}
use Rattle.app_invariants.proofs.tokens.TokenInvariant.count.Goals as goal

pub returns : goal.returns
returns c =
    λ v are.
    let g = c.args.topology.now in
    c.tokens_of.ensures v are
    ∙ ap (λ ks. sum_by (tokens_at g v) (map (λ k. get_or g.ids k 0) ks)) c.as_slice.ensures.value
    ∙ ap (sum_by (tokens_at g v)) c.in_ok-members.ensures.nodes
    ∙ tokens_of_part g c.args.at c.lemma_is_graph.ensures.graph c.requires.node v
