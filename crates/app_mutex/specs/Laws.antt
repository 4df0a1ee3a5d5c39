-- A node that is in holds its turns, at the start and after each action.
use Rattle.std.proofs.Common.{◌≡◌, ◌≢◌, ◌⊎◌, ℕ, ◌≤◌, ◌==◌, Bool, true, false, not, ◌&&◌, cond, List, Option, Some, None}
use Rattle.std.proofs.Common.{Ok, Err, length, sym, ap, ap₂, ◌∙◌, subst, arith, eqb-true, ⊎_elim, true≢false}
use Rattle.std.specs.Result.{result_ok}
use Rattle.std.proofs.lemmas.Grind.{common_steps}
use Rattle.std.proofs.lemmas.Bool.{cases_eq}
use Rattle.topology.specs.Graph.{Graph, IsGraph, IsNode, AreLinked, Changes}
use Rattle.app_interface.specs.Application.{Action, is_read, seen}
use Rattle.app_interface.specs.Invariant.{Keeps, SameAtNodes}
use Rattle.app_interface.specs.declared.refusal.ClockRefusal.TheVariants.{NotEnabled}
use Rattle.app_mutex.specs.Mutex.{holds_turns, mutex, mutex_next, mutex_reads, mutex_start}
use Rattle.app_interface.specs.LawsOfSeen.{seen_pass}
use Rattle.app_mutex.specs.Turns.{HoldsTurns, holds_turn}
use Rattle.app_mutex.specs.declared.local.MutexLocal.{MutexLocal}

-- ---- what an enabled case does

-- the state that enter leaves
abbrev entered : MutexLocal → MutexLocal
entered own = record { inside = true; bit = own.bit }

-- the state that leave leaves
abbrev left : MutexLocal → MutexLocal
left own = record { inside = false; bit = not own.bit }

-- an enabled case enters or leaves
data Moves (case : ℕ) (own : MutexLocal) (held : Bool) (new : MutexLocal) : Type 0 where
  enters : 1 ≡ case → held ≡ true → new ≡ entered own → Moves case own held new
  leaves : own.inside ≡ true → new ≡ left own → Moves case own held new

fired : (b i c h : Bool) (p t new : MutexLocal) →
    result_ok
    (cond b (cond (not i && h) (Ok p) (Err NotEnabled)) (cond c (cond i (Ok t) (Err NotEnabled)) (Err NotEnabled)))
    ≡ Some new →
    ((b ≡ true) × (h ≡ true) × (new ≡ p)) ⊎ ((i ≡ true) × (new ≡ t))
fired b i c h p t new e = grind (arith, common_steps)

moves : (i case : ℕ) (own new : MutexLocal) (near : List (ℕ × MutexLocal)) → mutex_next i case None own near ≡ Some new
    → Moves case own (holds_turns i own.bit near) new
moves i case own new near e =
    ⊎_elim
    (λ p. enters (eqb-true 1 case p.0) p.1 p.2)
    (λ t. leaves t.0 t.1)
    (fired (1 == case) own.inside (2 == case) (holds_turns i own.bit near) (entered own) (left own) new e)

-- ---- the turn of a link belongs to one of its ends

pub other_turn : (i j : ℕ) (b c : Bool) → i ≢ j → holds_turn j c i b ≡ not (holds_turn i b j c)
other_turn i j b c other = grind (arith, common_steps)

-- so two neighbours aren't both in
pub neighbours_apart : (g : Graph) (v : ℕ → MutexLocal) (i j : ℕ) → IsGraph g → HoldsTurns g v → AreLinked g i j
    → (v i).inside ≡ true → (v j).inside ≡ true → ⊥
neighbours_apart g v i j are inv linked here there =
    let other : i ≢ j = λ same. are.irreflexive j (subst (λ k. AreLinked g k j) same linked) in
    let theirs : holds_turn j (v j).bit i (v i).bit ≡ true = inv j i (are.symmetric j i ∙ linked) there in
    true≢false (sym theirs ∙ other_turn i j (v i).bit (v j).bit other ∙ ap not (inv i j linked here))

-- ---- an action at i

module _ (g : Graph) (are : IsGraph g) (v v' : ℕ → MutexLocal) (i : ℕ) (new : MutexLocal)
    (changes : Changes g v i new v') where
  to : (a b : ℕ) → AreLinked g a b → IsNode g b
  to a b linked = are.ends b a (are.symmetric b a ∙ linked)

  -- a node that enters holds the turns that it saw
  enter_keeps : ((j : ℕ) → AreLinked g i j → holds_turn i (v i).bit j (v j).bit ≡ true) → new ≡ entered (v i)
      → HoldsTurns g v → HoldsTurns g v'
  enter_keeps turns is inv a b linked inside =
      ap₂ (λ x y. holds_turn a x b y) (same_bit a (are.ends a b linked)) (same_bit b (to a b linked))
      ∙ ⊎_elim
      (λ here. subst (λ k. holds_turn k (v k).bit b (v b).bit ≡ true) (sym here)
      (turns b (subst (λ k. AreLinked g k b) here linked)))
      (λ other. inv a b linked (ap (λ s. s.inside) (sym (changes.others a (are.ends a b linked) other)) ∙ inside))
      (cases_eq a i)
    where
      same_bit : (k : ℕ) → IsNode g k → (v' k).bit ≡ (v k).bit
      same_bit k at =
          ⊎_elim
          (λ here. subst (λ n. (v' n).bit ≡ (v n).bit) (sym here) (ap (λ s. s.bit) (changes.here ∙ is)))
          (λ other. ap (λ s. s.bit) (changes.others k at other))
          (cases_eq k i)

  -- a node that leaves was in, so that none of its neighbours is
  leave_keeps : (v i).inside ≡ true → new ≡ left (v i) → HoldsTurns g v → HoldsTurns g v'
  leave_keeps was is inv a b linked inside = ⊎_elim gone stays (cases_eq a i)
    where
      gone : a ≡ i → holds_turn a (v' a).bit b (v' b).bit ≡ true
      gone here =
          let out : (v' i).inside ≡ false = ap (λ s. s.inside) (changes.here ∙ is) in
          absurd (true≢false (sym inside ∙ ap (λ k. (v' k).inside) here ∙ out))

      stays : a ≢ i → holds_turn a (v' a).bit b (v' b).bit ≡ true
      stays other =
          let same : v' a ≡ v a = changes.others a (are.ends a b linked) other in
          let inside_before : (v a).inside ≡ true = ap (λ s. s.inside) (sym same) ∙ inside in
          let apart : b ≢ i =
          λ here. neighbours_apart g v a i are inv (subst (AreLinked g a) here linked) inside_before was in
          ap₂ (λ x y. holds_turn a x.bit b y.bit) same (changes.others b (to a b linked) apart)
          ∙ inv a b linked inside_before

acts : (g : Graph) → IsGraph g → (bound i case : ℕ) (with : Option ℕ) (v v' : ℕ → MutexLocal)
    → Action mutex g bound i case with v v' → HoldsTurns g v → HoldsTurns g v'
acts g are bound i case (Some j) v v' h inv = let e : None ≡ Some h.new = h.next in absurd (cc)
acts g are bound i case None v v' h inv = moved (moves i case (v i) h.new _ h.next)
  where
    moved : Moves case (v i) (holds_turns i (v i).bit (seen (is_read g i (mutex_reads case) None) v g.ids)) h.new
        → HoldsTurns g v'
    moved (enters one held is) =
        let held_all =
        subst (λ c. holds_turns i (v i).bit (seen (is_read g i (mutex_reads c) None) v g.ids) ≡ true) (sym one) held
        in
        enter_keeps g are v v' i h.new h.changes
        ((seen_pass (λ near. holds_turn i (v i).bit near.0 near.1.bit) v g are i).0 held_all) is inv
    moved (leaves was is) = leave_keeps g are v v' i h.new h.changes was is inv

-- ---- the start, and the same states

starts : (g : Graph) → HoldsTurns g (mutex_start g)
starts g i j linked inside = absurd (true≢false (sym inside))

same_turns : (g : Graph) → IsGraph g → (v v' : ℕ → MutexLocal) → SameAtNodes g v v' → HoldsTurns g v → HoldsTurns g v'
same_turns g are v v' same inv i j linked inside =
    let here = same i (are.ends i j linked) in
    let there = same j (are.ends j i (are.symmetric j i ∙ linked)) in
    ap₂ (λ x y. holds_turn i x.bit j y.bit) here there ∙ inv i j linked (ap (λ s. s.inside) (sym here) ∙ inside)

-- every node that is in holds its turns, at the start and after each action
pub mutex_keeps : (g : Graph) (bound : ℕ) → IsGraph g → length g.ids ≤ bound → Keeps mutex g bound (HoldsTurns g)
mutex_keeps g bound are few = record {
  same = same_turns g are;
  starts = starts g;
  acts = acts g are bound;
}
