-- Where each node that is in holds its turns, every link is good at both ends.
use Rattle.std.proofs.Common.{◌≡◌, ◌≢◌, ℕ, ◌≤◌, true, false, not, None, length, refl, sym, ap, ◌∙◌, subst, true≢false}
use Rattle.std.proofs.lemmas.Bool.{and_parts, false_from_ne_true}
use Rattle.action_tables.specs.Table.{enabled_of}
use Rattle.topology.specs.Graph.{Graph, IsGraph, AreLinked}
use Rattle.app_interface.specs.Invariant.{IsQuiet}
use Rattle.app_mutex.specs.Laws.{neighbours_apart, other_turn}
use Rattle.app_mutex.specs.Mutex.{mutex}
use Rattle.app_mutex.specs.MutexLinks.{in_without_turn, mutex_link_fault, two_in}
use Rattle.app_mutex.specs.Turns.{HoldsTurns, holds_turn}
use Rattle.app_mutex.specs.declared.local.MutexLocal.{MutexLocal}

module _ (g : Graph) (are : IsGraph g) (v : ℕ → MutexLocal) (inv : HoldsTurns g v) (i j : ℕ)
    (linked : AreLinked g i j) where
  never_two_in : two_in (v i) (v j) ≡ false
  never_two_in =
      false_from_ne_true _ (λ both.
      let ends = and_parts (v i).inside (v j).inside both in
      neighbours_apart g v i j are inv linked ends.0 ends.1)

  never_without_turn : in_without_turn i j (v i) (v j) ≡ false
  never_without_turn =
      false_from_ne_true _ (λ both. let is = and_parts (v i).inside _ both in true≢false (sym is.1 ∙ own_turn is.0))
    where
      other : i ≢ j
      other same = are.irreflexive j (subst (λ k. AreLinked g k j) same linked)

      own_turn : (v i).inside ≡ true → holds_turn j (v j).bit i (v i).bit ≡ false
      own_turn inside = other_turn i j (v i).bit (v j).bit other ∙ ap not (inv i j linked inside)

-- where no row's guard holds, none is told
none_told : (i j : ℕ) (own theirs : MutexLocal) →
    two_in own theirs ≡ false → in_without_turn i j own theirs ≡ false → mutex_link_fault i j own theirs ≡ None
unfolding enabled_of
none_told i j own theirs one two = rw (one, two) refl

-- no row fails at either end of a link
pub mutex_quiet : (g : Graph) (bound : ℕ) → IsGraph g → length g.ids ≤ bound → IsQuiet mutex g bound (HoldsTurns g)
mutex_quiet g bound are few = record {
  at = λ v inv i j linked. none_told i j (v i) (v j)
      (never_two_in g are v inv i j linked) (never_without_turn g are v inv i j linked);
}
