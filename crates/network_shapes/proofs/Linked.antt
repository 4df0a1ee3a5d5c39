-- The links of nodes with lesser ones: how many they are, which ends they have, and that none is there twice.
use Rattle.std.proofs.Common.{◌≡◌, ◌≢◌, ℕ, zero, suc, ◌+◌, ◌-◌, ◌*◌, ◌<◌, ◌≤◌, min, max, List, [], ◌∷◌, ◌++◌, length}
use Rattle.std.proofs.Common.{All, AllPairs, Contains, refl, sym, ap, subst, ◌∙◌, arith, ⊎_elim, length-append}
use Rattle.std.specs.List.{flat_map, range_with_len}
use Rattle.std.proofs.lemmas.List.{append_assoc}
use Rattle.std.proofs.lemmas.List.Elements.{All-cons, All-contains, All-head, All-nil, All-tail}
use Rattle.std.proofs.lemmas.List.Elements.{All-weaker, Contains-push_cases}
use Rattle.topology.specs.Faults.{ends_of, ordered_links}
use Rattle.topology.proofs.FirstItems.{apart_push}
use Rattle.network_shapes.specs.Shapes.{links_to}
use Rattle.network_shapes.proofs.Lesser.{AreLesser}
use Rattle.network_shapes.proofs.Ranges.{All-range, flat_map_next, has_number}

-- from a node to a greater one that is no greater than count
pub record IsUpward (count : ℕ) (l : ℕ × ℕ) : Type 0 where
  pub some : 0 < l.0
  pub upward : l.0 < l.1
  pub within : l.1 ≤ count

-- the links of one node
links_to-upward : (node : ℕ) (js : List ℕ) → AreLesser node js → All (IsUpward node) (links_to node js)
links_to-upward node [] are = absurd are
links_to-upward node (a ∷ []) are =
    All-cons (IsUpward node) (a, node) [] (record { some = are.0; upward = are.1; within = omega arith })
    (All-nil (IsUpward node))
links_to-upward node (a ∷ b ∷ []) are =
    All-cons (IsUpward node) (a, node) ((b, node) ∷ [])
    (record { some = are.0; upward = omega arith; within = omega arith })
    (All-cons (IsUpward node) (b, node) [] (record { some = omega arith; upward = are.2; within = omega arith })
    (All-nil (IsUpward node)))
links_to-upward node (a ∷ b ∷ c ∷ js) are = absurd are

links_to-few : (node : ℕ) (js : List ℕ) → AreLesser node js → length (links_to node js) ≤ 2
links_to-few node [] are = omega arith
links_to-few node (a ∷ []) are = omega arith
links_to-few node (a ∷ b ∷ []) are = omega arith
links_to-few node (a ∷ b ∷ c ∷ js) are = absurd are

-- links to other nodes, and then those of one more node
links_to-apart : (node : ℕ) (js : List ℕ) (ls : List (ℕ × ℕ)) → AreLesser node js → All (λ l. l.1 < node) ls
    → AllPairs (λ l m. l ≢ m) ls → AllPairs (λ l m. l ≢ m) (ls ++ links_to node js)
links_to-apart node [] ls are before apart = absurd are
links_to-apart node (a ∷ []) ls are before apart =
    apart_push ls (a, node) apart
    (λ twice.
    let less : node < node = All-contains (λ (l : ℕ × ℕ). l.1 < node) ls (a, node) before twice in
    absurd (omega arith))
links_to-apart node (a ∷ b ∷ []) ls are before apart =
    let once : (x : ℕ) → Contains ls (x, node) → ⊥ =
    λ x twice.
    let less : node < node = All-contains (λ (l : ℕ × ℕ). l.1 < node) ls (x, node) before twice in
    absurd (omega arith) in
    subst (AllPairs (λ l m. l ≢ m)) (append_assoc ls ((a, node) ∷ []) ((b, node) ∷ []))
    (apart_push (ls ++ (a, node) ∷ []) (b, node) (apart_push ls (a, node) apart (once a))
    (λ twice.
    ⊎_elim (once b) (λ same. let first : a ≡ b = ap (λ l. l.0) same in absurd (omega arith))
    (Contains-push_cases ls (a, node) (b, node) twice)))
links_to-apart node (a ∷ b ∷ c ∷ js) ls are before apart = absurd are

-- links from lesser to greater nodes stand in order
pub ordered_links-upward : (count : ℕ) (ls : List (ℕ × ℕ)) → All (IsUpward count) ls → ordered_links ls ≡ ls
ordered_links-upward count [] each = refl
ordered_links-upward count (l ∷ ls) each =
    let here = All-head (IsUpward count) l ls each in
    let least : min l.0 l.1 ≡ l.0 = omega (arith, here.upward) in
    let greatest : max l.0 l.1 ≡ l.1 = omega (arith, here.upward) in
    rw (least, greatest, ordered_links-upward count ls (All-tail (IsUpward count) l ls each))

-- the ends of such links are nodes
pub ends_of-upward : (count : ℕ) (ls : List (ℕ × ℕ)) → All (IsUpward count) ls
    → All (Contains (range_with_len 1 count)) (ends_of ls)
ends_of-upward count [] each = All-nil (Contains (range_with_len 1 count))
ends_of-upward count (l ∷ ls) each =
    let here = All-head (IsUpward count) l ls each in
    let node : ℕ → Type 0 = Contains (range_with_len 1 count) in
    All-cons node l.0 (l.1 ∷ ends_of ls) (has_number count l.0 here.some (omega (arith, here.upward, here.within)))
    (All-cons node l.1 (ends_of ls) (has_number count l.1 (omega (arith, here.upward)) here.within)
    (ends_of-upward count ls (All-tail (IsUpward count) l ls each)))

module _ (f : ℕ → List ℕ) (count : ℕ) (lesser : (node : ℕ) → 2 ≤ node → node ≤ count → AreLesser node (f node)) where
  -- the links of the nodes from 2 on, of so many
  abbrev pub links_of : ℕ → List (ℕ × ℕ)
  links_of n = flat_map (λ node. links_to node (f node)) (range_with_len 2 n)

  links_of-next : (n : ℕ) → links_of (suc n) ≡ links_of n ++ links_to (n + 2) (f (n + 2))
  links_of-next n =
      let e : n + 2 + 1 - 2 ≡ suc n = omega arith in
      let s : n + 2 - 2 ≡ n = omega arith in
      ap links_of (sym e) ∙ flat_map_next (λ node. links_to node (f node)) 2 (n + 2) (omega arith)
      ∙ ap (λ m. links_of m ++ links_to (n + 2) (f (n + 2))) s

  pub links_of-upward : (n : ℕ) → n < count → All (IsUpward (n + 1)) (links_of n)
  links_of-upward n few =
      All-range (IsUpward (n + 1)) (λ node. links_to node (f node)) 2 n
      (λ node from to.
      All-weaker (IsUpward node) (IsUpward (n + 1))
      (λ l is. record { some = is.some; upward = is.upward; within = omega (arith, is.within) })
      (links_to node (f node)) (links_to-upward node (f node) (lesser node from (omega arith))))

  pub links_of-few : (n : ℕ) → n < count → length (links_of n) ≤ 2 * n
  links_of-few zero few = omega arith
  links_of-few (suc n) few =
      let next : length (links_of (suc n)) ≡ length (links_of n) + length (links_to (n + 2) (f (n + 2))) =
      ap length (links_of-next n) ∙ length-append (links_of n) (links_to (n + 2) (f (n + 2))) in
      let last = links_to-few (n + 2) (f (n + 2)) (lesser (n + 2) (omega arith) (omega arith)) in
      omega (arith, links_of-few n (omega arith), next, last)

  pub links_of-apart : (n : ℕ) → n < count → AllPairs (λ l m. l ≢ m) (links_of n)
  links_of-apart zero few = λ i j d less within. absurd (omega arith)
  links_of-apart (suc n) few =
      subst (AllPairs (λ l m. l ≢ m)) (sym (links_of-next n))
      (links_to-apart (n + 2) (f (n + 2)) (links_of n) (lesser (n + 2) (omega arith) (omega arith))
      (All-weaker (IsUpward (n + 1)) (λ l. l.1 < n + 2) (λ l is. omega (arith, is.within)) (links_of n)
      (links_of-upward n (omega arith)))
      (links_of-apart n (omega arith)))
