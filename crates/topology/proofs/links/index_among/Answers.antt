use Rattle.std.proofs.Common.{◌≡◌, true, is_some, ◌∙◌, ◌==◌, position, ap, rules, sym}
use Rattle.topology.specs.Graph.{has}
use Rattle.topology.proofs.Ascending.{member_by_index}
use Rattle.topology.proofs.RowLemmas.{index_found}
use Rattle.topology.proofs.links.index_among.Goals as goal

pub unwrap-requires : goal.unwrap-requires
unwrap-requires c =
    let up : has c.args.ids.now.nodes c.args.id ≡ true =
    ap (λ ns. has ns c.args.id) c.requires.all_up ∙ c.requires.known in
    let at : c.node_at.result ≡ position (λ i. i == c.args.id) c.args.ids.now.ids = rw up at c.node_at.ensures in
    let found : is_some c.node_at.result ≡ true =
    member_by_index c.args.ids.now.ids c.args.id c.node_at.result at ∙ c.requires.known in
    search rules

pub returns-clause-value : goal.returns-clause-value
returns-clause-value c =
    (index_found c.args.ids.now.ids c.args.ids.now.nodes c.args.id c.unwrap.result
    (sym c.unwrap.ensures ∙ c.node_at.ensures)).1
