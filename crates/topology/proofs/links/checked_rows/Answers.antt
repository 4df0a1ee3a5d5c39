use Rattle.std.proofs.Common.{◌≡◌, ◌≢◌, ℕ, List, sym, refl, subst}
use Rattle.std.proofs.lemmas.Result.{IfErr-weaker}
use Rattle.topology.specs.Building.{AreSorted}
use Rattle.topology.specs.Faults.{IsFirstFault, IsFirstRepeat, ordered_links}
use Rattle.topology.specs.declared.fault.TopoFault.TheVariants.{TooManyLinks, TwiceLink, NoMemory}
use Rattle.topology.proofs.FaultOrder.{clean_nodes, first_fault, strange_first, self_first, twice_first}
use Rattle.topology.proofs.links.checked_rows.Goals as goal

pub returns-then-links-gt-MAX_LINKS-clause-err : goal.returns-then-links-gt-MAX_LINKS-clause-err
returns-then-links-gt-MAX_LINKS-clause-err c =
    λ _ nodes sorted.
    first_fault nodes c.args.links.now TooManyLinks 4 refl
    (clean_nodes nodes c.args.ids.now.ids c.lemma_are_ids.ensures.ids sorted c.args.links.now) c.if-links-gt-MAX_LINKS.true

pub returns-in-Some-clause-err : goal.returns-in-Some-clause-err
returns-in-Some-clause-err c =
    λ _ nodes sorted. strange_first nodes c.args.ids.now.ids c.lemma_are_ids.ensures.ids sorted c.args.links.now
    c.if-links-gt-MAX_LINKS.false c.in-Some.end c.in-Some.ensures

pub returns-in-Some-first_self_link-clause-err : goal.returns-in-Some-first_self_link-clause-err
returns-in-Some-first_self_link-clause-err c =
    λ _ nodes sorted.
    self_first nodes c.args.ids.now.ids c.lemma_are_ids.ensures.ids sorted c.args.links.now c.if-links-gt-MAX_LINKS.false
    c.in_default.ensures c.in-Some-first_self_link.node c.in-Some-first_self_link.ensures

pub returns-clause-err : goal.returns-clause-err
returns-clause-err c =
    let ids = c.args.ids.now.ids in
    let links = c.args.links.now in
    IfErr-weaker c.linked_rows.result
    (λ f. f ≢ NoMemory → (p : ℕ × ℕ) × (f ≡ TwiceLink p.0 p.1) × IsFirstRepeat (ordered_links links) p)
    (λ f. f ≢ NoMemory → (nodes : List ℕ) → AreSorted nodes ids → IsFirstFault nodes links f)
    (λ f gives other nodes sorted.
    let twice = gives other in
    subst (IsFirstFault nodes links) (sym twice.1)
    (twice_first nodes ids c.lemma_are_ids.ensures.ids sorted links c.if-links-gt-MAX_LINKS.false c.in_default.ensures
    c.in_default-first_self_link.ensures twice.0 twice.2))
    c.linked_rows.ensures.err
