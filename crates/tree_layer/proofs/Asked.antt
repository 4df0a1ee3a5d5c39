-- What is known of the one neighbour that is asked.
use Rattle.std.proofs.Common.{◌≡◌, ℕ, ◌<◌, ◌≤◌, Bool, true, false, ◌||◌, ◌&&◌, ◌==◌, ◌+◌, nat_lt, List, [], ◌∷◌, length}
use Rattle.std.proofs.Common.{arith}
use Rattle.std.proofs.lemmas.Bool.{and_parts, ltb-true}
use Rattle.tree_layer.specs.declared.regs.TreeRegs.{TreeRegs}
use Rattle.tree_layer.specs.TreeTable.{AreBelow, asked_passes}

or_left : (b : Bool) → (b || false) ≡ true → b ≡ true
or_left true h = h
or_left false h = h

-- where it passes a test that only distances below the bound pass
below_asked : (K : ℕ) (p : TreeRegs → Bool) → ((j : TreeRegs) → p j ≡ true → j.dist < K) → (asked : List (ℕ × TreeRegs))
    → length asked ≤ 1 → asked_passes p asked ≡ true → AreBelow K asked
below_asked K p low [] one passes = tt
below_asked K p low (j ∷ []) one passes = (low j.1 (or_left (p j.1) passes), tt)
below_asked K p low (j ∷ i ∷ js) one passes = absurd (omega arith)

pub below_greater_root : (K root : ℕ) (asked : List (ℕ × TreeRegs)) → length asked ≤ 1
    → asked_passes (λ j. nat_lt j.dist K && nat_lt root j.root) asked ≡ true → AreBelow K asked
below_greater_root K root asked =
    below_asked K (λ j. nat_lt j.dist K && nat_lt root j.root)
    (λ j h. ltb-true j.dist K (and_parts (nat_lt j.dist K) (nat_lt root j.root) h).0) asked

pub below_shorter_way : (K root dist : ℕ) (asked : List (ℕ × TreeRegs)) → length asked ≤ 1
    → asked_passes (λ j. nat_lt j.dist K && root == j.root && nat_lt (j.dist + 1) dist) asked ≡ true → AreBelow K asked
below_shorter_way K root dist asked =
    below_asked K (λ j. nat_lt j.dist K && root == j.root && nat_lt (j.dist + 1) dist)
    (λ j h. ltb-true j.dist K
    (and_parts (nat_lt j.dist K) (root == j.root)
    (and_parts (nat_lt j.dist K && root == j.root) (nat_lt (j.dist + 1) dist) h).0).0) asked
