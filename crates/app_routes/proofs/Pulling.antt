-- One entry more of a neighbour, taken or left.
use Rattle.std.proofs.Common.{◌≡◌, ℕ, ◌+◌, ◌<◌, ◌^◌, true, false, cond, ltb, List, length, get_or, take, sym, ap, ◌∙◌}
use Rattle.std.proofs.Common.{subst, arith}
use Rattle.std.proofs.lemmas.Bool.{ltb-true, and_parts}
use Rattle.std.proofs.lemmas.List.Sums.{fold_more}
use Rattle.topology.specs.Id.{IsId}
use Rattle.app_routes.specs.Entries.{AreRoutes, IsEntry, is_better, over, pulled, set_route, take_better}
use Rattle.app_routes.specs.declared.entry.Entry.{Entry}
use Rattle.app_routes.proofs.Places.{routes_set}

-- the way over a neighbour, where it is better, is an entry
over_is : (K j : ℕ) (own : List Entry) (e : Entry) → IsId j → K < 2 ^ 32 → IsEntry e → is_better K own e ≡ true
    → IsEntry (over j e)
over_is K j own e id small is better =
    let low : e.hops + 1 < K = ltb-true _ _ (and_parts (ltb (e.hops + 1) K) _ better).0 in
    record { destination = is.destination; hops = omega (arith, low, small); next = id }

module _ (K j : ℕ) (own theirs : List Entry) (id : IsId j) (small : K < 2 ^ 32) (are : AreRoutes theirs)
    (es : List Entry) (i : ℕ) (x : Entry) (lt : i < length theirs) where
  module _ (routes : AreRoutes es) (so_far : es ≡ pulled K j own (take i theirs)) where
    next : pulled K j own (take (i + 1) theirs) ≡ take_better K j own es (get_or theirs i x)
    next = fold_more (take_better K j own) own theirs i x lt
        ∙ ap (λ l. take_better K j own l (get_or theirs i x)) (sym so_far)

    pub took : is_better K own (get_or theirs i x) ≡ true → (new : List Entry)
        → new ≡ set_route es (over j (get_or theirs i x)) → AreRoutes new × (new ≡ pulled K j own (take (i + 1) theirs))
    took better new is = (
      subst AreRoutes (sym is)
          (routes_set es (over j (get_or theirs i x)) routes
          (over_is K j own (get_or theirs i x) id small (are.are_entries i x lt) better)),
      is ∙ sym (next ∙ ap (λ b. cond b (set_route es (over j (get_or theirs i x))) es) better),
    )

    pub left : is_better K own (get_or theirs i x) ≡ false → AreRoutes es × (es ≡ pulled K j own (take (i + 1) theirs))
    left worse = (routes, sym (next ∙ ap (λ b. cond b (set_route es (over j (get_or theirs i x))) es) worse))
