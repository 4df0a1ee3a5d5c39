-- The nodes of a component that are in without their turns.
use Rattle.std.proofs.Common.{◌≡◌, ℕ, zero, suc, ◌<◌, Bool, false, not, ◌&&◌, List, [], ◌∷◌, length, get_or, refl, sym, ap, ◌∙◌}
use Rattle.std.proofs.Common.{arith}
use Rattle.std.specs.List.{count_by, list_all}
use Rattle.std.proofs.Math.Bool.{and-false}
use Rattle.topology.specs.Components.{component}
use Rattle.topology.specs.Graph.{Graph, IsGraph, IsNode}
use Rattle.topology.proofs.Components.{component_is}
use Rattle.app_token.specs.LawsOfSums.{number_of, same_sum}
use Rattle.app_mutex.specs.Turns.{holds_turn}
use Rattle.app_mutex.specs.declared.local.MutexLocal.{MutexLocal}
use Rattle.app_invariants.specs.LackedTurns.{in_without_count, is_in_without}
use Rattle.app_invariants.proofs.Parts.{near_in_part}

-- where one fails, not all pass
pub some_fails : {X : Type 0} (p : X → Bool) (xs : List X) (k : ℕ) (x : X) → k < length xs
    → p (get_or xs k x) ≡ false → list_all p xs ≡ false
some_fails p [] k x lt e = absurd (omega arith)
some_fails p (y ∷ xs) zero x lt e = rw e refl
some_fails p (y ∷ xs) (suc k) x lt e =
    ap (λ b. p y && b) (some_fails p xs k x (omega arith) e) ∙ and-false (p y)

pub in_without_part : (g : Graph) (i : ℕ) → IsGraph g → IsNode g i → (v : ℕ → MutexLocal)
    → count_by (is_in_without g v) (component g i).nodes ≡ in_without_count (component g i) v
in_without_part g i are node v =
    let part = component_is g i are node in
    same_sum (component g i) (λ j. number_of (is_in_without (component g i) v j)) (λ j. number_of (is_in_without g v j))
    (λ j at. ap
    (λ near. number_of ((v j).inside && not (list_all (λ k. holds_turn j (v j).bit k (v k).bit) near)))
    (sym (near_in_part g i are node j ((part.same_nodes j).0 at))))
