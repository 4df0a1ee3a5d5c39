-- There is one token at the start, and each action keeps it the one.
use Rattle.std.proofs.Common.{◌≡◌, ◌≢◌, ◌⊎◌, ℕ, ◌+◌, ◌<◌, ◌≤◌, Bool, true, false, not, ◌&&◌, ◌==◌, cond, List, []}
use Rattle.std.proofs.Common.{◌∷◌, Option, Some, None, Ok, Err, length, inl, inr, refl, sym, ap, ap₂, ◌∙◌, subst, arith}
use Rattle.std.proofs.Common.{eq-eqb, ne_eqb, eqb-true, ⊎_elim}
use Rattle.std.specs.List.{count_by, sum_by}
use Rattle.std.specs.Prelude.{option_and_then}
use Rattle.std.specs.Result.{result_ok}
use Rattle.std.proofs.Math.Bool.{and-false}
use Rattle.std.proofs.lemmas.Bool.{cases_eq}
use Rattle.std.specs.Option.{option_map_or}
use Rattle.std.proofs.lemmas.List.Sums.{sum_by-cons}
use Rattle.topology.specs.Components.{component, leader}
use Rattle.topology.specs.Graph.{Graph, IsGraph, IsConnected, IsNode, IsReached, AreLinked, Changes, are_linked}
use Rattle.topology.specs.Graph.{greatest, has, is_node}
use Rattle.topology.proofs.Components.{component_is, connected_leader, greatest_node, part_leader, reached_node}
use Rattle.topology.proofs.Components.{same_leader}
use Rattle.topology.proofs.Membership.{has-Contains}
use Rattle.app_interface.specs.Application.{Action, Fits, is_read, seen}
use Rattle.app_interface.specs.Ids.{is_id}
use Rattle.app_interface.specs.Invariant.{Keeps, SameAtNodes}
use Rattle.app_interface.specs.LawsOfViews.{seen_is}
use Rattle.app_interface.specs.Views.{seen_at}
use Rattle.app_interface.specs.declared.refusal.ClockRefusal.TheVariants.{NotEnabled}
use Rattle.app_token.specs.Bits.{differ, toggled}
use Rattle.app_token.specs.LawsOfBits.{toggled_same, toggled_other}
use Rattle.app_token.specs.OneToken.{in_flight, holders, flights, HasOneToken}
use Rattle.app_token.specs.LawsOfSums.{number_of, same_sum, sum_at, pairs_at}
use Rattle.app_token.specs.Token.{token, token_next, token_reads, token_start, arrives}
use Rattle.app_token.specs.declared.local.TokenLocal.{TokenLocal}

-- ---- what an enabled case does

-- the state that a pass toward j leaves
abbrev passed : TokenLocal → ℕ → TokenLocal
passed own j = record { hold = false; given = toggled own.given j; taken = own.taken }

-- the state that a take from j leaves
abbrev took : TokenLocal → ℕ → TokenLocal
took own j = record { hold = true; given = own.given; taken = toggled own.taken j }

-- an enabled case is a pass or a take toward a neighbour
data Moves (i case : ℕ) (own : TokenLocal) (near : List (ℕ × TokenLocal)) (new : TokenLocal) (j : ℕ) : Type 0 where
  passes : 1 ≡ case → own.hold ≡ true → new ≡ passed own j → Moves i case own near new j
  takes : 2 ≡ case → own.hold ≡ false → arrives i j own near ≡ true → new ≡ took own j → Moves i case own near new j

fired : (b h c a : Bool) (p t new : TokenLocal) →
    result_ok
    (cond b (cond h (Ok p) (Err NotEnabled)) (cond c (cond (not h && a) (Ok t) (Err NotEnabled)) (Err NotEnabled)))
    ≡ Some new →
    ((b ≡ true) × (h ≡ true) × (new ≡ p)) ⊎ ((c ≡ true) × (h ≡ false) × (a ≡ true) × (new ≡ t))
fired true true c a p t new e = inl (refl, refl, cc)
fired true false c a p t new e = absurd (cc)
fired false h false a p t new e = absurd (cc)
fired false true true a p t new e = absurd (cc)
fired false false true true p t new e = inr (refl, refl, refl, cc)
fired false false true false p t new e = absurd (cc)

moves_toward : (i case j : ℕ) (own new : TokenLocal) (near : List (ℕ × TokenLocal))
    → token_next i case (Some j) own near ≡ Some new → Moves i case own near new j
moves_toward i case j own new near = at (is_id j)
  where
    at : (b : Bool)
        → option_and_then
        (λ k. result_ok
        (cond (1 == case) (cond own.hold (Ok (passed own k)) (Err NotEnabled))
        (cond (2 == case) (cond (not own.hold && arrives i k own near) (Ok (took own k)) (Err NotEnabled))
        (Err NotEnabled)))) (cond b (Some j) None) ≡ Some new
        → Moves i case own near new j
    at false e = absurd (cc)
    at true e =
        ⊎_elim
        (λ p. passes (eqb-true 1 case p.0) p.1 p.2)
        (λ t. takes (eqb-true 2 case t.0) t.1 t.2 t.3)
        (fired (1 == case) own.hold (2 == case) (arrives i j own near) (passed own j) (took own j) new e)

arrived : (f : TokenLocal → Bool) (o : Option TokenLocal) → option_map_or f o false ≡ true
    → (w : TokenLocal) × (o ≡ Some w) × (f w ≡ true)
arrived f (Some w) e = (w, refl, e)
arrived f None e = absurd (cc)

-- ---- the numbers of bits

differ_first : (a b : Bool) → differ (not a) b ≡ not (differ a b)
differ_first true true = refl
differ_first true false = refl
differ_first false true = refl
differ_first false false = refl

differ_second : (a b : Bool) → differ a (not b) ≡ not (differ a b)
differ_second true true = refl
differ_second true false = refl
differ_second false true = refl
differ_second false false = refl

one_of_both : (b : Bool) → number_of (not b) + number_of b ≡ 1
one_of_both true = refl
one_of_both false = refl

-- ---- an action at i toward its neighbour j

module _ (g : Graph) (are : IsGraph g) (v v' : ℕ → TokenLocal) (i j : ℕ) (node : IsNode g i) (linked : AreLinked g i j)
    (new : TokenLocal) (changes : Changes g v i new v') where
  back : AreLinked g j i
  back = are.symmetric j i ∙ linked

  to : IsNode g j
  to = are.ends j i back

  -- what an action leaves at i, it leaves everywhere
  kept_all : (f : TokenLocal → List ℕ) → f new ≡ f (v i) → (c : ℕ) → IsNode g c → f (v' c) ≡ f (v c)
  kept_all f here c at =
      ⊎_elim
      (λ same. subst (λ k. f (v' k) ≡ f (v k)) (sym same) (ap f changes.here ∙ here))
      (λ other. ap f (changes.others c at other))
      (cases_eq c i)

  holders_change : holders g v' + number_of (v i).hold ≡ holders g v + number_of (v' i).hold
  holders_change =
      sum_at g are (λ a. number_of (v a).hold) (λ a. number_of (v' a).hold) i node
      (λ k at ne. ap (λ s. number_of s.hold) (changes.others k at ne))

  module _ (held : (v i).hold ≡ true) (is : new ≡ passed (v i) j) where
    given_after : (c : ℕ) → c ≢ j → has (v' i).given c ≡ has (v i).given c
    given_after c ne = ap (λ s. has s.given c) (changes.here ∙ is) ∙ toggled_other (v i).given j c ne

    taken_kept : (c : ℕ) → IsNode g c → (v' c).taken ≡ (v c).taken
    taken_kept = kept_all (λ s. s.taken) (ap (λ s. s.taken) is)

    sent : in_flight g v' i j ≡ not (in_flight g v i j)
    sent =
        rw (linked, taken_kept j to)
        (ap (λ s. differ (has s.given j) (has (v j).taken i)) (changes.here ∙ is)
        ∙ ap (λ b. differ b (has (v j).taken i)) (toggled_same (v i).given j)
        ∙ differ_first (has (v i).given j) (has (v j).taken i))

    flights_sent : flights g v' + number_of (in_flight g v i j) ≡ flights g v + number_of (in_flight g v' i j)
    flights_sent =
        pairs_at g are (in_flight g v) (in_flight g v') i j node to
        (λ c at ne. ap₂ (λ x y. are_linked g i c && differ x (has y i)) (given_after c ne) (taken_kept c at))
        (λ k c from at ne. ap₂ (λ x y. are_linked g k c && differ (has x.given c) (has y k))
        (changes.others k from ne) (taken_kept c at))

    -- the token goes on its way
    pass_keeps : HasOneToken g v → HasOneToken g v'
    pass_keeps inv =
        let was : number_of (v i).hold ≡ 1 = ap number_of held in
        let now : number_of (v' i).hold ≡ 0 = ap (λ s. number_of s.hold) (changes.here ∙ is) in
        let both : number_of (in_flight g v' i j) + number_of (in_flight g v i j) ≡ 1 =
        ap (λ b. number_of b + number_of (in_flight g v i j)) sent ∙ one_of_both (in_flight g v i j) in
        omega (arith, inv, was, now, holders_change, both, flights_sent)

  module _ (free : (v i).hold ≡ false) (flying : differ (has (v j).given i) (has (v i).taken j) ≡ true)
      (is : new ≡ took (v i) j) where
    given_kept : (c : ℕ) → IsNode g c → (v' c).given ≡ (v c).given
    given_kept = kept_all (λ s. s.given) (ap (λ s. s.given) is)

    taken_after : (k c : ℕ) → IsNode g c → k ≢ j → has (v' c).taken k ≡ has (v c).taken k
    taken_after k c at ne =
        ⊎_elim
        (λ same.
        let here : has (v' i).taken k ≡ has (v i).taken k =
        ap (λ s. has s.taken k) (changes.here ∙ is) ∙ toggled_other (v i).taken j k ne in
        subst (λ n. has (v' n).taken k ≡ has (v n).taken k) (sym same) here)
        (λ other. ap (λ s. has s.taken k) (changes.others c at other))
        (cases_eq c i)

    flying_before : in_flight g v j i ≡ true
    flying_before = rw back flying

    landed : in_flight g v' j i ≡ false
    landed =
        rw (back, given_kept j to)
        (ap (λ s. differ (has (v j).given i) (has s.taken j)) (changes.here ∙ is)
        ∙ ap (differ (has (v j).given i)) (toggled_same (v i).taken j)
        ∙ differ_second (has (v j).given i) (has (v i).taken j)
        ∙ ap not flying)

    flights_landed : flights g v' + number_of (in_flight g v j i) ≡ flights g v + number_of (in_flight g v' j i)
    flights_landed =
        pairs_at g are (in_flight g v) (in_flight g v') j i to node
        (λ c at ne. ap₂ (λ x y. are_linked g j c && differ (has x c) (has y.taken j)) (given_kept j to)
        (changes.others c at ne))
        (λ k c from at ne. ap₂ (λ x y. are_linked g k c && differ (has x c) y) (given_kept k from)
        (taken_after k c at ne))

    -- the token comes to rest
    take_keeps : HasOneToken g v → HasOneToken g v'
    take_keeps inv =
        let was : number_of (v i).hold ≡ 0 = ap number_of free in
        let now : number_of (v' i).hold ≡ 1 = ap (λ s. number_of s.hold) (changes.here ∙ is) in
        let before : number_of (in_flight g v j i) ≡ 1 = ap number_of flying_before in
        let after : number_of (in_flight g v' j i) ≡ 0 = ap number_of landed in
        omega (arith, inv, was, now, holders_change, before, after, flights_landed)

acts : (g : Graph) → IsGraph g → (bound i case : ℕ) (with : Option ℕ) (v v' : ℕ → TokenLocal)
    → Action token g bound i case with v v' → HasOneToken g v → HasOneToken g v'
acts g are bound i case None v v' h inv = let e : None ≡ Some h.new = h.next in absurd (cc)
acts g are bound i case (Some j) v v' h inv = moved (moves_toward i case j (v i) h.new _ h.next)
  where
    near : List (ℕ × TokenLocal)
    near = seen (is_read g i (token_reads case) (Some j)) v g.ids

    moved : Moves i case (v i) near h.new j → HasOneToken g v'
    moved (passes one held is) =
        let fits : AreLinked g i j = subst (λ c. Fits g i (token_reads c) (Some j)) (sym one) h.fits in
        pass_keeps g are v v' i j h.node fits h.new h.changes held is inv
    moved (takes two free comes is) =
        let fits : AreLinked g i j = subst (λ c. Fits g i (token_reads c) (Some j)) (sym two) h.fits in
        let comes_two : arrives i j (v i) (seen (λ k. k == j) v g.ids) ≡ true =
        subst (λ c. arrives i j (v i) (seen (is_read g i (token_reads c) (Some j)) v g.ids) ≡ true) (sym two) comes
        in
        let from =
        arrived (λ theirs. differ (has theirs.given i) (has (v i).taken j))
        (seen_at j (seen (λ k. k == j) v g.ids)) comes_two in
        let flying : differ (has (v j).given i) (has (v i).taken j) ≡ true =
        subst (λ w. differ (has w.given i) (has (v i).taken j) ≡ true) (seen_is j v g.ids from.0 from.1) from.2 in
        take_keeps g are v v' i j h.node fits h.new h.changes free flying is inv

-- ---- the start, and the same states

none_counted : (nodes : List ℕ) → sum_by (λ k. 0) nodes ≡ 0
none_counted [] = refl
none_counted (k ∷ nodes) = omega (arith, sum_by-cons (λ k. 0) k nodes, none_counted nodes)

starts : (g : Graph) → IsGraph g → IsConnected g → 0 < length g.nodes → HasOneToken g (token_start g)
starts g are whole some =
    let node : IsNode g (greatest g) = greatest_node g some in
    let holds : ℕ → Bool = λ k. is_node g k && (k == leader g k) in
    let one : holders g (token_start g) + 0 ≡ sum_by (λ k. 0) g.nodes + number_of (holds (greatest g)) =
    sum_at g are (λ k. 0) (λ k. number_of (holds k)) (greatest g) node
    (λ k at ne.
    ap₂ (λ b c. number_of (b && c)) (has-Contains g.nodes k at)
    (ne_eqb k (leader g k) (λ same. ne (same ∙ connected_leader g k are whole at)))) in
    let itself : number_of (holds (greatest g)) ≡ 1 =
    ap₂ (λ b c. number_of (b && c)) (has-Contains g.nodes (greatest g) node)
    (eq-eqb (greatest g) (leader g (greatest g)) (sym (connected_leader g (greatest g) are whole node))) in
    let row : (a : ℕ) → count_by (λ b. in_flight g (token_start g) a b) g.nodes ≡ 0 =
    λ a. same_sum g (λ k. 0) (λ b. number_of (in_flight g (token_start g) a b))
    (λ b at. ap number_of (and-false (are_linked g a b))) ∙ none_counted g.nodes in
    let none : flights g (token_start g) ≡ 0 =
    same_sum g (λ k. 0) (λ a. count_by (λ b. in_flight g (token_start g) a b) g.nodes) (λ a at. row a)
    ∙ none_counted g.nodes in
    omega (arith, one, itself, none, none_counted g.nodes)

same_token : (g : Graph) (v v' : ℕ → TokenLocal) → SameAtNodes g v v' → HasOneToken g v → HasOneToken g v'
same_token g v v' same inv =
    let held : holders g v' ≡ holders g v =
    same_sum g (λ a. number_of (v a).hold) (λ a. number_of (v' a).hold)
    (λ a at. ap (λ s. number_of s.hold) (same a at)) in
    let flown : flights g v' ≡ flights g v =
    same_sum g (λ a. count_by (λ b. in_flight g v a b) g.nodes) (λ a. count_by (λ b. in_flight g v' a b) g.nodes)
    (λ a from. same_sum g (λ b. number_of (in_flight g v a b)) (λ b. number_of (in_flight g v' a b))
    (λ b to. ap₂ (λ x y. number_of (are_linked g a b && differ (has x.given b) (has y.taken a))) (same a from)
    (same b to))) in
    omega (arith, inv, held, flown)

-- one token, at the start and after each action
pub token_keeps : (g : Graph) (bound : ℕ) → IsGraph g → IsConnected g → 0 < length g.nodes
    → length g.ids ≤ bound → Keeps token g bound (HasOneToken g)
token_keeps g bound are whole some few = record {
  same = same_token g;
  starts = starts g are whole some;
  acts = acts g are bound;
}

-- a node's leader is that of its component by itself
pub token_starts : (g : Graph) (i j : ℕ) → IsGraph g → IsNode g i → IsReached g i j
    → token_start (component g i) j ≡ token_start g j
token_starts g i j are node reached =
    let same : leader (component g i) j ≡ leader g j =
    part_leader g i j are node reached ∙ sym (same_leader g i j are node reached) in
    let part = component_is g i are node in
    let here : is_node (component g i) j ≡ true =
    has-Contains (component g i).nodes j ((part.same_nodes j).1 reached) in
    let there : is_node g j ≡ true = has-Contains g.nodes j (reached_node g i j are node reached) in
    ap₂ (λ b k. record { hold = b && (j == k); given = []; taken = [] }) (here ∙ sym there) same
