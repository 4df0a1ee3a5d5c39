use Rattle.std.proofs.Common.{subst₂, nat_cmp}
use Rattle.std.specs.List.Sorted.{IsBinarySearchResult}
use Rattle.app_token.proofs.BitLists.{removed, IsBits-removed, put_in, IsBits-put_in}
use Rattle.app_token.proofs.bits.Bits.toggled.Goals as goal

pub invariant_of-result : goal.invariant_of-result
invariant_of-result c =
    rw (c.remove.ensures.items, c.in_ok-ids.ensures.ok, c.ids.ensures.value)
    (IsBits-removed c.args.self.now c.args.id c.ids.ensures.bits c.in-Ok.place
    (subst₂ (λ xs r. IsBinarySearchResult (λ y. nat_cmp y c.args.id) xs r) c.ids-2.ensures.value c.in-Ok.is
    c.binary_search.ensures.position))

pub invariant_of-result-in-Err : goal.invariant_of-result-in-Err
invariant_of-result-in-Err c =
    rw (c.in_ok-insert-in-Err.ensures.ok, c.in_ok-ids.ensures.ok, c.ids.ensures.value)
    (IsBits-put_in c.args.self.now c.args.id c.ids.ensures.bits c.in-Err.place c.requires
    (subst₂ (λ xs r. IsBinarySearchResult (λ y. nat_cmp y c.args.id) xs r) c.ids-2.ensures.value c.in-Err.is
    c.binary_search.ensures.position))

pub returns-in-Ok : goal.returns-in-Ok
returns-in-Ok c =
    rw (c.remove.ensures.items, c.in_ok-ids.ensures.ok, c.ids.ensures.value)
    (removed c.args.self.now c.args.id c.ids.ensures.bits c.in-Ok.place
    (subst₂ (λ xs r. IsBinarySearchResult (λ y. nat_cmp y c.args.id) xs r) c.ids-2.ensures.value c.in-Ok.is
    c.binary_search.ensures.position))

pub returns-in_ok-insert-in-Err : goal.returns-in_ok-insert-in-Err
returns-in_ok-insert-in-Err c =
    rw (c.in_ok-insert-in-Err.ensures.ok, c.in_ok-ids.ensures.ok, c.ids.ensures.value)
    (put_in c.args.self.now c.args.id c.ids.ensures.bits c.in-Err.place
    (subst₂ (λ xs r. IsBinarySearchResult (λ y. nat_cmp y c.args.id) xs r) c.ids-2.ensures.value c.in-Err.is
    c.binary_search.ensures.position))
