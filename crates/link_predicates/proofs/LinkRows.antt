-- What the first failing row at an end of a link says of the registers at its ends.
use Rattle.std.proofs.Common.{arith, ◌≡◌, ◌≢◌, ◌⊎◌, inl, inr, ℕ, suc, ◌+◌, nat_eq, true≢false, subst, Bool, true, false}
use Rattle.std.proofs.Common.{cond, ◌&&◌, ◌||◌, ◌==◌, nat_lt, [], ◌∷◌, Option, Some, None, Result, Err, refl, sym, ap}
use Rattle.std.proofs.Common.{◌∙◌}
use Rattle.std.proofs.lemmas.Bool.Decides.{eqb_tells, leb_tells}
use Rattle.action_tables.specs.Table.{enabled_of, fired_of, fired_toward}
use Rattle.topology.specs.Graph.{Graph, AreLinked, IsGraph}
use Rattle.tree_layer.specs.declared.regs.TreeRefusal.{TreeRefusal}
use Rattle.tree_layer.specs.declared.regs.TreeRegs.{TreeRegs}
use Rattle.tree_layer.specs.TreeRows.{Adopts, Follows, IsFather, adopted, follow_dist, follow_root}
use Rattle.tree_layer.specs.TreeTable.{LocalView, tree_table}
use Rattle.wave_layer.specs.declared.regs.WaveRegs.{WaveRegs}
use Rattle.wave_layer.specs.declared.regs.FatherSeen.TheVariants.{Is}
use Rattle.wave_layer.specs.WaveTable as wave
use Rattle.wave_layer.specs.WaveTable.{WaveHolds, is_reset, wave_table}
use Rattle.wave_layer.specs.Sessions.{next_session}
use Rattle.reset_model.specs.LocalSteps.{or_next, fired_tree, tree_view_of}
use Rattle.reset_model.specs.declared.plan.Fired.{Fired}
use Rattle.reset_model.specs.declared.step.StepRefusal.{StepRefusal}
use Rattle.reset_model.specs.declared.step.StepRefusal.TheVariants.{NotEnabled}
use Rattle.reset_model.proofs.TreePlans.{IsTreeFired, adopt_is, near_some}
use Rattle.link_predicates.specs.Faults.{first_enabled, mending_row}
use Rattle.reset_model.proofs.EnabledRows.{row_holds}
use Rattle.link_predicates.proofs.EnabledRows.{Eq, Lt, Tells, fired_if, first_by, first_of, no_wave}

-- the first of two numbers whose test holds
abbrev pub first_of_two : ℕ → ℕ → Bool → Bool → Option ℕ
first_of_two a b p q = cond p (Some a) (cond q (Some b) None)

-- what the first of two rows tells is what they answer, one after the other
either_tells : (E : Type 0) (a b : ℕ) (regs : TreeRegs) (p q : Bool)
    → IsTreeFired (or_next (fired_if p regs) (or_next (fired_if q regs) (Err NotEnabled))) E regs
    → Tells E (first_of_two a b (p || false) (q || false))
either_tells E a b regs true q is = is.0
either_tells E a b regs false true is = is.0
either_tells E a b regs false false is = is

both_tell : (A B : Type 0) (a b c d : ℕ) (p q r s : Bool) → Tells A (first_of_two a b p q)
    → Tells B (first_of_two c d r s) → Tells (A ⊎ B) (first_of a b c d p q r s)
both_tell A B a b c d true q r s wrong other = inl wrong
both_tell A B a b c d false true r s wrong other = inl wrong
both_tell A B a b c d false false true s right other = inr other
both_tell A B a b c d false false false true right other = inr other
both_tell A B a b c d false false false false right other = neither
  where
    neither : A ⊎ B → ⊥
    neither (inl x) = right x
    neither (inr y) = other y

-- the neighbour j is i's father and not as i takes it to be
abbrev pub IsOtherFather : Graph → ℕ → (ℕ → TreeRegs) → ℕ → ℕ → Type 0
IsOtherFather g K t i j = IsFather g t i j × Follows g K t i

module _ (g : Graph) (K : ℕ) (t : ℕ → TreeRegs) (graph : IsGraph g) (i j : ℕ) (linked : AreLinked g i j) where
  abbrev pub seen : LocalView
  seen = record { id = i; bound = K; own = t i; near = (j, t j) ∷ [] }

  abbrev pub rows : ℕ → Bool
  rows n = row_holds n (tree_table seen seen.near)

  same : (k : ℕ) → IsFather g t i k → j ≡ (t i).father → k ≡ j
  same k father named = sym father.named ∙ sym named

  pub follow_tells : Tells (IsOtherFather g K t i j) (first_of_two 5 6 (rows 5) (rows 6))
  follow_tells = father (eqb_tells j (t i).father)
    where
      IsClaimed : Type 0
      IsClaimed = Tells (IsOtherFather g K t i j) (first_of_two 5 6 (rows 5) (rows 6))

      up : nat_eq j (t i).father ≡ true → j ≡ (t i).father → Lt (t i).dist K → Eq (t i).root (t j).root
          → Eq (t i).dist ((t j).dist + 1) → IsClaimed
      up test named (inr far) root dist = rw (test, far.0) rests
        where
          rests : IsOtherFather g K t i j → ⊥
          rests (_, follow_root k _ near _) = absurd (omega (arith, near, far.1))
          rests (_, follow_dist k _ near _ _) = absurd (omega (arith, near, far.1))
      up test named (inl near) (inr root) dist =
          rw (test, near.0, root.0) (
            record { named = sym named; linked = linked },
            follow_root j (record { named = sym named; linked = linked })
                near.1 root.1,
          )
      up test named (inl near) (inl root) (inr dist) =
          rw (test, near.0, root.0, dist.0) (
            record { named = sym named; linked = linked },
            follow_dist j (record { named = sym named; linked = linked })
                near.1 root.1 dist.1,
          )
      up test named (inl near) (inl root) (inl dist) = rw (test, near.0, root.0, dist.0) rests
        where
          rests : IsOtherFather g K t i j → ⊥
          rests (_, follow_root k father _ apart) = apart (root.1 ∙ ap (λ n. (t n).root) (sym (same k father named)))
          rests (_, follow_dist k father _ _ apart) =
              apart (dist.1 ∙ ap (λ n. (t n).dist + 1) (sym (same k father named)))

      father : Eq j (t i).father → IsClaimed
      father (inl named) = up named.0 named.1 (leb_tells (suc (t i).dist) K) (eqb_tells _ _) (eqb_tells _ _)
      father (inr other) = rw other.0 (λ told. other.1 (sym told.0.named))

  pub adopt_tells : Tells (Adopts g K t i j) (first_of_two 7 8 (rows 7) (rows 8))
  adopt_tells =
      let v = tree_view_of g K t i in
      let row : Option TreeRegs → ℕ → Result Fired StepRefusal =
      λ o n. fired_tree
      (fired_toward TreeRefusal.StrangeNeighbour
      (λ asked. fired_of TreeRefusal.NoSuchCase TreeRefusal.NotEnabled (tree_table v asked) n) j o) in
      let near = nat_lt (t j).dist K in
      let higher = (near && nat_lt (t i).root (t j).root) || false in
      let shorter = (near && (t i).root == (t j).root && nat_lt ((t j).dist + 1) (t i).dist) || false in
      either_tells (Adopts g K t i j) 7 8 (adopted j (t j)) higher shorter
      (subst (λ o. IsTreeFired (or_next (row o 7) (or_next (row o 8) (Err NotEnabled))) (Adopts g K t i j)
      (adopted j (t j)))
      (near_some g K 0 t no_wave graph i j linked) (adopt_is g K 0 t no_wave graph i j linked))

  -- rows 5 to 8 tell whether the neighbour is another father than i takes it to be, or is to be adopted
  pub end_tells : Tells (IsOtherFather g K t i j ⊎ Adopts g K t i j)
      (first_enabled (5 ∷ 6 ∷ 7 ∷ 8 ∷ []) (enabled_of (tree_table seen seen.near)))
  end_tells =
      subst (Tells (IsOtherFather g K t i j ⊎ Adopts g K t i j)) (sym (first_by (tree_table seen seen.near) 5 6 7 8))
      (both_tell (IsOtherFather g K t i j) (Adopts g K t i j) 5 6 7 8 (rows 5) (rows 6) (rows 7) (rows 8) follow_tells
      adopt_tells)

-- a row that is told says that this doesn't hold, and none that it does
abbrev pub Denies : Type 0 → Option ℕ → Type 0
Denies Right None = Right
Denies Right (Some row) = Right → ⊥

pub denied_where_right : {Right : Type 0} (o : Option ℕ) → Denies Right o → Right → o ≡ None
denied_where_right None denies right = refl
denied_where_right (Some row) denies right = absurd (denies right)

-- rows 8 to 11 of the wave table tell whether the wave predicate fails
pub mending_tells : (m : ℕ) (own up : WaveRegs) → Denies (WaveHolds m own up) (mending_row m own up)
mending_tells m own up =
    subst (Denies (WaveHolds m own up)) (sym (first_by (wave_table seen_up []) 8 9 10 11))
    (at (is_reset own.phase) (is_reset up.phase) refl refl (eqb_tells own.session up.session)
    (eqb_tells up.session own.session) (eqb_tells up.session (next_session m own.session)))
  where
    seen_up : wave.LocalView
    seen_up = record { own = own; father = Is up; children = []; modulus = m }

    rows : ℕ → Bool
    rows n = row_holds n (wave_table seen_up [])

    IsClaimed : Type 0
    IsClaimed = Denies (WaveHolds m own up) (first_of 8 9 10 11 (rows 8) (rows 9) (rows 10) (rows 11))

    awake_only : is_reset own.phase ≡ true → is_reset up.phase ≡ true → own.session ≢ up.session → WaveHolds m own up → ⊥
    awake_only reset up_reset apart holds = fits (holds.resetting up_reset)
      where
        fits : (own.session ≡ up.session) ⊎ ((is_reset own.phase ≡ false) × (up.session ≡ next_session m own.session)) → ⊥
        fits (inl same) = apart same
        fits (inr behind) = true≢false (sym reset ∙ behind.0)

    late : is_reset up.phase ≡ true → up.session ≢ own.session → up.session ≢ next_session m own.session
        → WaveHolds m own up → ⊥
    late up_reset apart beyond holds = fits (holds.resetting up_reset)
      where
        fits : (own.session ≡ up.session) ⊎ ((is_reset own.phase ≡ false) × (up.session ≡ next_session m own.session)) → ⊥
        fits (inl same) = apart (sym same)
        fits (inr behind) = beyond behind.1

    at : (p q : Bool) → is_reset own.phase ≡ p → is_reset up.phase ≡ q → Eq own.session up.session
        → Eq up.session own.session → Eq up.session (next_session m own.session) → IsClaimed
    at true false own_is up_is s back next =
        rw (own_is, up_is) (λ holds. true≢false (sym own_is ∙ (holds.awake up_is).0))
    at false false own_is up_is (inl s) back next =
        rw (own_is, up_is, s.0)
        (record { awake = λ is. (own_is, s.1); resetting = λ is. absurd (true≢false (sym is ∙ up_is)) })
    at false false own_is up_is (inr s) back next = rw (own_is, up_is, s.0) (λ holds. s.1 (holds.awake up_is).1)
    at true true own_is up_is (inl s) back next =
        rw (own_is, up_is, s.0)
        (record { awake = λ is. absurd (true≢false (sym up_is ∙ is)); resetting = λ is. inl s.1 })
    at true true own_is up_is (inr s) back next = rw (own_is, up_is, s.0) (awake_only own_is up_is s.1)
    at false true own_is up_is s (inl back) next =
        rw (own_is, up_is, back.0)
        (record { awake = λ is. absurd (true≢false (sym up_is ∙ is)); resetting = λ is. inl (sym back.1) })
    at false true own_is up_is s (inr back) (inl next) =
        rw (own_is, up_is, back.0, next.0)
        (record { awake = λ is. absurd (true≢false (sym up_is ∙ is)); resetting = λ is. inr (own_is, next.1) })
    at false true own_is up_is s (inr back) (inr next) = rw (own_is, up_is, back.0, next.0) (late up_is back.1 next.1)
