-- Registers that fit each other let no row fail at an end of a link.
use Rattle.std.proofs.Common.{arith, ◌≡◌, ◌≢◌, ◌⊎◌, inl, inr, ℕ, suc, ◌+◌, ◌<◌, ◌≤◌, nat_eq, nat_le, subst, Bool, true}
use Rattle.std.proofs.Common.{false, cond, [], ◌∷◌, None, refl, sym, ap, ◌∙◌}
use Rattle.std.proofs.lemmas.Bool.{eq-eqb}
use Rattle.std.proofs.lemmas.Bool.Decides.{eqb_tells, leb_tells}
use Rattle.std.proofs.lemmas.Option.{none-some}
use Rattle.action_tables.specs.Table.{enabled_of}
use Rattle.tree_layer.specs.declared.regs.TreeRegs.{TreeRegs}
use Rattle.tree_layer.specs.TreeTable.{LocalView, tree_table}
use Rattle.reset_model.specs.View.{Neighbour}
use Rattle.link_predicates.specs.Faults.{first_enabled, mending_row, tree_row, wave_row}
use Rattle.reset_model.proofs.EnabledRows.{row_holds}
use Rattle.link_predicates.proofs.EnabledRows.{Eq, Lt, first_by, first_of}
use Rattle.link_predicates.proofs.LinkRows.{first_of_two}
use Rattle.link_predicates.proofs.OwnRows.{first_own, seeing}

-- the neighbour is not to be adopted
abbrev pub Stays : ℕ → TreeRegs → TreeRegs → Type 0
Stays K own other = other.dist < K → (other.root ≤ own.root) × (own.root ≡ other.root → own.dist ≤ other.dist + 1)

-- the father is as the node takes it to be
abbrev pub FatherFits : ℕ → TreeRegs → TreeRegs → Type 0
FatherFits K own up = own.dist < K → (own.root ≡ up.root) × (own.dist ≡ up.dist + 1)

both_none : (a b c d : ℕ) (p q r s : Bool) → first_of_two a b p q ≡ None → first_of_two c d r s ≡ None
    → first_of a b c d p q r s ≡ None
both_none a b c d true q r s first second = absurd (none-some a (sym first))
both_none a b c d false true r s first second = absurd (none-some b (sym first))
both_none a b c d false false r s first second = second

module _ (K i j : ℕ) (own other : TreeRegs) where
  abbrev pub seen : LocalView
  seen = record { id = i; bound = K; own = own; near = (j, other) ∷ [] }

  abbrev rows : ℕ → Bool
  rows n = row_holds n (tree_table seen seen.near)

  none_follows : (own.father ≡ j → FatherFits K own other) → first_of_two 5 6 (rows 5) (rows 6) ≡ None
  none_follows fits = father (eqb_tells j own.father)
    where
      up : nat_eq j own.father ≡ true → FatherFits K own other → Lt own.dist K → Eq own.root other.root
          → Eq own.dist (other.dist + 1) → first_of_two 5 6 (rows 5) (rows 6) ≡ None
      up test fit (inr far) root dist = rw (test, far.0) refl
      up test fit (inl near) (inr root) dist = absurd (root.1 (fit near.1).0)
      up test fit (inl near) (inl root) (inr dist) = absurd (dist.1 (fit near.1).1)
      up test fit (inl near) (inl root) (inl dist) = rw (test, near.0, root.0, dist.0) refl

      father : Eq j own.father → first_of_two 5 6 (rows 5) (rows 6) ≡ None
      father (inl named) = up named.0 (fits (sym named.1)) (leb_tells (suc own.dist) K) (eqb_tells _ _) (eqb_tells _ _)
      father (inr strange) = rw strange.0 refl

  none_adopts : Stays K own other → first_of_two 7 8 (rows 7) (rows 8) ≡ None
  none_adopts stays =
      at (leb_tells (suc other.dist) K) (leb_tells (suc own.root) other.root) (eqb_tells own.root other.root)
      (leb_tells (suc (other.dist + 1)) own.dist)
    where
      at : Lt other.dist K → Lt own.root other.root → Eq own.root other.root → Lt (other.dist + 1) own.dist
          → first_of_two 7 8 (rows 7) (rows 8) ≡ None
      at (inr far) higher root shorter = rw far.0 refl
      at (inl near) (inl higher) root shorter = absurd (omega (arith, higher.1, (stays near.1).0))
      at (inl near) (inr low) (inr apart) shorter = rw (near.0, low.0, apart.0) refl
      at (inl near) (inr low) (inl same) (inl shorter) = absurd (omega (arith, shorter.1, (stays near.1).1 same.1))
      at (inl near) (inr low) (inl same) (inr longer) = rw (near.0, low.0, same.0, longer.0) refl

  none_enabled : Stays K own other → (own.father ≡ j → FatherFits K own other)
      → first_enabled (5 ∷ 6 ∷ 7 ∷ 8 ∷ []) (enabled_of (tree_table seen seen.near)) ≡ None
  none_enabled stays fits =
      first_by (tree_table seen seen.near) 5 6 7 8
      ∙ both_none 5 6 7 8 (rows 5) (rows 6) (rows 7) (rows 8) (none_follows fits) (none_adopts stays)

-- none of rows 1 to 4 fails at a node whose father is a neighbour, where these three things hold
pub no_own_row : (K id : ℕ) (own up : TreeRegs) → id ≤ own.root → own.father ≢ id → own.dist < K
    → first_own id K own ((own.father, up) ∷ []) ≡ None
no_own_row K id own up high other near =
    first_by (tree_table (seeing id K own ((own.father, up) ∷ [])) ((own.father, up) ∷ [])) 1 2 3 4
    ∙ at (leb_tells (suc own.root) id) (eqb_tells own.father id) (leb_tells K own.dist)
  where
    rows : ℕ → Bool
    rows n = row_holds n (tree_table (seeing id K own ((own.father, up) ∷ [])) ((own.father, up) ∷ []))

    at : Lt own.root id → Eq own.father id
        → ((nat_le K own.dist ≡ true) × (K ≤ own.dist)) ⊎ ((nat_le K own.dist ≡ false) × (own.dist < K))
        → first_of 1 2 3 4 (rows 1) (rows 2) (rows 3) (rows 4) ≡ None
    at (inl low) father far = absurd (omega (arith, low.1, high))
    at (inr low) (inl self) far = absurd (other self.1)
    at (inr low) (inr strange) (inl far) = absurd (omega (arith, far.1, near))
    at (inr low) (inr strange) (inr far) = rw (low.0, strange.0, far.0, eq-eqb own.father own.father refl) refl

-- the same of what is read of both ends
module _ {L : Type 0} (own other own' other' : Neighbour L) (own_is : own' ≡ own) (other_is : other' ≡ other) where
  pub no_tree_row : (K : ℕ) → Stays K own'.tree other'.tree
      → (own'.tree.father ≡ other'.id → FatherFits K own'.tree other'.tree) → tree_row K own other ≡ None
  no_tree_row K stays fits =
      subst (λ n. tree_row K n other ≡ None) own_is
      (subst (λ n. tree_row K own' n ≡ None) other_is
      (none_enabled K own'.id other'.id own'.tree other'.tree stays fits))

  pub no_wave_row : (m : ℕ) → (own'.tree.father ≡ other'.id → mending_row m own'.wave other'.wave ≡ None)
      → wave_row m own other ≡ None
  no_wave_row m fits =
      subst (λ n. wave_row m n other ≡ None) own_is
      (subst (λ n. wave_row m own' n ≡ None) other_is (at (eqb_tells own'.tree.father other'.id)))
    where
      at : Eq own'.tree.father other'.id → wave_row m own' other' ≡ None
      at (inl named) = ap (λ b. cond b (mending_row m own'.wave other'.wave) None) named.0 ∙ fits named.1
      at (inr strange) = ap (λ b. cond b (mending_row m own'.wave other'.wave) None) strange.0
