use Rattle.std.proofs.Common.{◌≡◌, true, false, All, get_or, take, ap, subst, sym, ◌∙◌}
use Rattle.std.proofs.lemmas.Bool.{both_ways}
use Rattle.std.proofs.lemmas.List.{take_all}
use Rattle.std.proofs.lemmas.List.Elements.{All-weaker}
use Rattle.topology.specs.Graph.{has}
use Rattle.topology.specs.Faults.{ends_of}
use Rattle.topology.proofs.FirstItems.{first_end, second_end}
use Rattle.topology.proofs.links.first_strange_end.Goals as goal

pub returns-then-not-is_up : goal.returns-then-not-is_up
returns-then-not-is_up c =
    let ids = c.args.ids.now.ids in
    let links = c.args.links.now in
    let k = c.loop-a.a-index in
    let strange : has ids (get_or links k (0, 0)).0 ≡ false =
    ap (λ ns. has ns (get_or links k (0, 0)).0) (sym c.requires.all_up) ∙ sym c.is_up.ensures ∙ c.if-not-is_up.true in
    first_end links k c.loop-a-test.true (λ x. has ids x ≡ true → ⊥)
    (All-weaker (λ x. has ids x ≡ true) (λ x. (has ids x ≡ true → ⊥) → ⊥) (λ x is not. not is) (ends_of (take k links))
    c.loop-a.invariant)
    (both_ways (has ids (get_or links k (0, 0)).0) strange)

pub returns-then-not-is_up-2 : goal.returns-then-not-is_up-2
returns-then-not-is_up-2 c =
    let ids = c.args.ids.now.ids in
    let links = c.args.links.now in
    let k = c.loop-a.a-index in
    let known : has ids (get_or links k (0, 0)).0 ≡ true =
    ap (λ ns. has ns (get_or links k (0, 0)).0) (sym c.requires.all_up) ∙ sym c.is_up.ensures ∙ c.if-not-is_up.false in
    let strange : has ids (get_or links k (0, 0)).1 ≡ false =
    ap (λ ns. has ns (get_or links k (0, 0)).1) (sym c.requires.all_up) ∙ sym c.is_up-in-loop-a.ensures
    ∙ c.if-not-is_up-2.true in
    second_end links k c.loop-a-test.true (λ x. has ids x ≡ true → ⊥)
    (All-weaker (λ x. has ids x ≡ true) (λ x. (has ids x ≡ true → ⊥) → ⊥) (λ x is not. not is) (ends_of (take k links))
    c.loop-a.invariant)
    (λ not. not known) (both_ways (has ids (get_or links k (0, 0)).1) strange)

pub returns : goal.returns
returns c =
    subst (λ ls. All (λ x. has c.args.ids.now.ids x ≡ true) (ends_of ls))
    (take_all c.loop-a.a-index c.args.links.now c.loop-a-test.false) c.loop-a.invariant
