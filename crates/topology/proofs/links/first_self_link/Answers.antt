use Rattle.std.proofs.Common.{◌≡◌, ◌≢◌, ℕ, ◌+◌, take, drop, get_or, ap, sym, subst}
use Rattle.topology.specs.Faults.{IsFirst}
use Rattle.topology.proofs.FirstItems.{first_at, split_at, all_passed}
use Rattle.topology.proofs.links.first_self_link.Goals as goal

pub returns-then-a-b : goal.returns-then-a-b
returns-then-a-b c =
    let links = c.args.links.now in
    let k = c.loop-a.a-index in
    let l : ℕ × ℕ = get_or links k (0, 0) in
    let same : l.0 ≡ l.1 = c.if-a-b.true in
    let pair : ◌≡◌ {A = ℕ × ℕ} l (l.0, l.0) = ap (λ y. (l.0, y)) (sym same) in
    subst (IsFirst (λ (m : ℕ × ℕ). m.0 ≡ m.1) links) pair
    (first_at (λ (m : ℕ × ℕ). m.0 ≡ m.1) links (take k links) (drop (k + 1) links) l
    (split_at links k (0, 0) c.loop-a-test.true) c.loop-a.invariant same)

pub returns : goal.returns
returns c =
    all_passed (λ (l : ℕ × ℕ). l.0 ≢ l.1) c.args.links.now c.loop-a.a-index c.loop-a-test.false c.loop-a.invariant
