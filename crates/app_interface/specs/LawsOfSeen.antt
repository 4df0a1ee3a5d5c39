-- All neighbours that a node sees pass a test exactly where all nodes that are linked to it do.
use Rattle.std.proofs.Common.{◌≡◌, ◌↔◌, ℕ, zero, suc, ◌<◌, Bool, true, false, cond, List, [], ◌∷◌, length, get_or, refl}
use Rattle.std.proofs.Common.{ap, ◌∙◌, subst, arith}
use Rattle.std.specs.List.{Contains, list_all}
use Rattle.std.proofs.lemmas.Bool.{and_from, and_parts}
use Rattle.topology.specs.Graph.{Graph, IsGraph, AreLinked, are_linked}
use Rattle.app_interface.specs.Application.{seen}

-- a test of a neighbour's identifier and local state
module _ {L : Type 0} (test : ℕ × L → Bool) (v : ℕ → L) where
  -- where all that are seen pass, each that is read passes
  pass_at : (p : ℕ → Bool) (ids : List ℕ) (k : ℕ) → k < length ids → list_all test (seen p v ids) ≡ true → (j : ℕ)
      → get_or ids k j ≡ j → p j ≡ true → test (j, v j) ≡ true
  pass_at p [] k lt all j is read = absurd (omega arith)
  pass_at p (i ∷ ids) zero lt all j is read =
      let here : p i ≡ true = ap p is ∙ read in
      let both : list_all test ((i, v i) ∷ seen p v ids) ≡ true = rw here at all in
      subst (λ n. test (n, v n) ≡ true) is (and_parts _ _ both).0
  pass_at p (i ∷ ids) (suc k) lt all j is read = pass_at p ids k (omega arith) (others (p i) all) j is read
    where
      others : (b : Bool) → list_all test (cond b ((i, v i) ∷ seen p v ids) (seen p v ids)) ≡ true
          → list_all test (seen p v ids) ≡ true
      others true all = (and_parts _ _ all).1
      others false all = all

  -- where each that is read passes, all that are seen pass
  all_pass : (p : ℕ → Bool) (ids : List ℕ) → ((j : ℕ) → Contains ids j → p j ≡ true → test (j, v j) ≡ true)
      → list_all test (seen p v ids) ≡ true
  all_pass p [] each = refl
  all_pass p (i ∷ ids) each =
      at (p i) refl (all_pass p ids (λ j there read. each j (suc there.0, omega (arith, there.1), there.2) read))
    where
      at : (b : Bool) → p i ≡ b → list_all test (seen p v ids) ≡ true
          → list_all test (cond b ((i, v i) ∷ seen p v ids) (seen p v ids)) ≡ true
      at true is rest = and_from _ _ (each i (0, omega arith, refl) is) rest
      at false is rest = rest

  pub seen_pass : (g : Graph) → IsGraph g → (i : ℕ)
      → ((list_all test (seen (are_linked g i) v g.ids) ≡ true) ↔ ((j : ℕ) → AreLinked g i j → test (j, v j) ≡ true))
  seen_pass g are i = (
    λ all j linked. let there =
        are.within j (are.ends j i (are.symmetric j i ∙ linked)) in pass_at (are_linked g i) g.ids there.0 there.1 all j there.2
        linked,
    λ each. all_pass (are_linked g i) g.ids (λ j there linked. each j linked),
  )
