-- Whether a node is linked to its leader hangs on its component alone.
use Rattle.std.proofs.Common.{◌≡◌, ◌↔◌, ℕ, Bool, true, false, refl, sym, ◌∙◌, ap}
use Rattle.topology.specs.Components.{component, leader}
use Rattle.topology.specs.Graph.{Graph, IsGraph, IsNode, IsReached, are_linked}
use Rattle.topology.proofs.Components.{component_is, part_leader, same_leader}

same_bit : (a b : Bool) → (a ≡ true → b ≡ true) → (b ≡ true → a ≡ true) → a ≡ b
same_bit true b there back = sym (there refl)
same_bit false true there back = back refl
same_bit false false there back = refl

pub leader_starts : (g : Graph) (i j : ℕ) → IsGraph g → IsNode g i → IsReached g i j
    → are_linked (component g i) j (leader (component g i) j) ≡ are_linked g j (leader g j)
leader_starts g i j are node reached =
    let part = component_is g i are node in
    let same : leader (component g i) j ≡ leader g j =
    part_leader g i j are node reached ∙ sym (same_leader g i j are node reached) in
    ap (are_linked (component g i) j) same
    ∙ same_bit (are_linked (component g i) j (leader g j)) (are_linked g j (leader g j))
    (λ linked. ((part.same_links j (leader g j)).0 linked).1)
    (λ linked. (part.same_links j (leader g j)).1 (reached, linked))
