use Rattle.std.proofs.Common.{Err, Ok, nat_cmp, subst₂}
use Rattle.std.specs.List.Sorted.{IsBinarySearchResult}
use Rattle.topology.proofs.Ascending.{index_by_search}
use Rattle.topology.proofs.ids.Ids.index_of.Goals as goal

pub returns-in-Ok : goal.returns-in-Ok
returns-in-Ok c =
    rw (← c.self.view_is)
    (index_by_search _ c.args.id c.self.invariant.as_ids.ascending (Ok c.in-Ok.index)
    (subst₂ (λ xs r. IsBinarySearchResult (λ y. nat_cmp y c.args.id) xs r) c.deref.ensures.value c.in-Ok.is
    c.binary_search.ensures.position))

pub returns-in-Err : goal.returns-in-Err
returns-in-Err c =
    rw (← c.self.view_is)
    (index_by_search _ c.args.id c.self.invariant.as_ids.ascending (Err c.in-Err.field-0)
    (subst₂ (λ xs r. IsBinarySearchResult (λ y. nat_cmp y c.args.id) xs r) c.deref.ensures.value c.in-Err.is
    c.binary_search.ensures.position))
