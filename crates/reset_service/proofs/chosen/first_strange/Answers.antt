use Rattle.std.proofs.Common.{◌≡◌, All, Contains, refl, rules, slice_index_or, subst, take}
use Rattle.std.proofs.Common.{true, false}
use Rattle.std.proofs.lemmas.List.{take_all}
use Rattle.std.proofs.lemmas.List.Elements.{All-more, All-weaker}
use Rattle.topology.specs.Graph.{has}
use Rattle.reset_service.proofs.Choosing.{among, first_at, not_among}
use Rattle.reset_service.proofs.chosen.first_strange.Goals as goal

pub returns-then-not-contains : goal.returns-then-not-contains
returns-then-not-contains c =
    let ids = c.args.ids.now in
    let named = c.args.named.now in
    let k = c.loop-id.id-index in
    let id = slice_index_or named k 0 in
    let strange : has ids id ≡ false = search rules in
    first_at (λ i. Contains ids i → ⊥) named k id c.loop-id-test.true refl
    (All-weaker (Contains ids) (λ i. (Contains ids i → ⊥) → ⊥) (λ i is none. none is) (take k named)
    c.loop-id.invariant)
    (not_among ids id strange)

pub loop-id-preserved : goal.loop-id-preserved
loop-id-preserved c =
    let ids = c.args.ids.now in
    let named = c.args.named.now in
    let k = c.loop-id.id-index in
    let id = slice_index_or named k 0 in
    let known : has ids id ≡ true = search rules in
    All-more (Contains ids) named k 0 c.loop-id-test.true c.loop-id.invariant (among ids id known)

pub returns : goal.returns
returns c =
    subst (All (Contains c.args.ids.now)) (take_all c.loop-id.id-index c.args.named.now c.loop-id-test.false)
    c.loop-id.invariant
