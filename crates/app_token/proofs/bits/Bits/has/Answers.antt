use Rattle.std.proofs.Common.{subst, ◌∙◌, nat_cmp}
use Rattle.std.specs.List.Sorted.{IsBinarySearchResult}
use Rattle.topology.proofs.Ascending.{member_by_search}
use Rattle.app_token.proofs.bits.Bits.has.Goals as goal

pub returns : goal.returns
returns c =
    let id = c.args.id in
    let answer = c.binary_search.result in
    c.is_ok.ensures.value
    ∙ member_by_search c.args.self.now id c.ids.ensures.bits.ascending answer
    (subst (λ xs. IsBinarySearchResult (λ y. nat_cmp y id) xs answer) c.ids.ensures.value
    c.binary_search.ensures.position)
