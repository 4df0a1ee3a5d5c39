-- Where there is one token, no row of the link table holds.
use Rattle.std.proofs.Common.{◌≡◌, ◌≢◌, ℕ, ◌+◌, ◌≤◌, Bool, true, false, ◌&&◌, ◌||◌, None, length, refl, ◌∙◌, subst}
use Rattle.std.proofs.Common.{arith}
use Rattle.std.specs.List.{count_by}
use Rattle.topology.specs.Graph.{Graph, IsGraph, IsNode, AreLinked}
use Rattle.action_tables.specs.Table.{enabled_of}
use Rattle.app_interface.specs.Invariant.{IsQuiet}
use Rattle.app_token.specs.LawsOfSums.{number_of, term_in_sum, two_terms_in_sum}
use Rattle.app_token.specs.OneToken.{HasOneToken, flights, holders, in_flight}
use Rattle.app_token.specs.Token.{token}
use Rattle.app_token.specs.TokenLinks.{is_in_flight, token_link_fault}
use Rattle.app_token.specs.declared.local.TokenLocal.{TokenLocal}

-- no row holds, by whether the two ends hold the token and whether a bit leaves and one arrives
record NoRow (hold hold' leaves arrives : Bool) : Type 0 where
  first : (hold && hold') ≡ false
  second : ((hold || hold') && (leaves || arrives)) ≡ false
  third : (leaves && arrives) ≡ false

-- so it is where one of these four holds at most
no_row : (hold hold' leaves arrives : Bool)
    → number_of hold + number_of hold' + (number_of leaves + number_of arrives) ≤ 1 → NoRow hold hold' leaves arrives
no_row false false false arrives few = record { first = refl; second = refl; third = refl }
no_row false false true false few = record { first = refl; second = refl; third = refl }
no_row false false true true few = absurd (omega (arith, few))
no_row false true false false few = record { first = refl; second = refl; third = refl }
no_row false true false true few = absurd (omega (arith, few))
no_row false true true arrives few = absurd (omega (arith, few))
no_row true false false false few = record { first = refl; second = refl; third = refl }
no_row true false false true few = absurd (omega (arith, few))
no_row true false true arrives few = absurd (omega (arith, few))
no_row true true leaves arrives few = absurd (omega (arith, few))

no_fault : (i j : ℕ) (own theirs : TokenLocal)
    → NoRow own.hold theirs.hold (is_in_flight i j own theirs) (is_in_flight j i theirs own)
    → token_link_fault i j own theirs ≡ None
unfolding enabled_of
no_fault i j own theirs none = rw (none.first, none.second, none.third) refl

module _ (g : Graph) (are : IsGraph g) (v : ℕ → TokenLocal) (i j : ℕ) (linked : AreLinked g i j) where
  back : AreLinked g j i
  back = are.symmetric j i ∙ linked

  near : IsNode g i
  near = are.ends i j linked

  far : IsNode g j
  far = are.ends j i back

  apart : j ≢ i
  apart same = are.irreflexive i (subst (λ k. AreLinked g i k) same linked)

  -- the two ends among the holders, and the two directions among the bits in flight
  on_link : number_of (v i).hold + number_of (v j).hold +
      (number_of (is_in_flight i j (v i) (v j)) + number_of (is_in_flight j i (v j) (v i))) ≤ holders g v + flights g v
  on_link =
      let held = two_terms_in_sum g are (λ a. number_of (v a).hold) i j near far apart in
      let flown = two_terms_in_sum g are (λ a. count_by (λ b. in_flight g v a b) g.nodes) i j near far apart in
      let leaving = term_in_sum g (λ b. number_of (in_flight g v i b)) j far in
      let arriving = term_in_sum g (λ b. number_of (in_flight g v j b)) i near in
      let leaves : number_of (in_flight g v i j) ≡ number_of (is_in_flight i j (v i) (v j)) = rw linked refl in
      let arrives : number_of (in_flight g v j i) ≡ number_of (is_in_flight j i (v j) (v i)) = rw back refl in
      omega (arith, held, flown, leaving, arriving, leaves, arrives)

  quiet_at : HasOneToken g v → token_link_fault i j (v i) (v j) ≡ None
  quiet_at one = no_fault i j (v i) (v j) (no_row _ _ _ _ (omega (arith, one, on_link)))

-- where there is one token, each link is good at both ends
pub token_quiet : (g : Graph) (bound : ℕ) → IsGraph g → length g.ids ≤ bound → IsQuiet token g bound (HasOneToken g)
token_quiet g bound are few = record { at = λ v one i j linked. quiet_at g are v i j linked one }
