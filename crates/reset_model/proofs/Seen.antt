-- What a node sees of its father and of its children.
use Rattle.std.proofs.Common.{◌≡◌, ◌≢◌, ℕ, ◌==◌, Bool, true, false, cond, ◌&&◌, ◌||◌, nat_eq, List, [], ◌∷◌, map, Some}
use Rattle.std.proofs.Common.{None, refl, sym, ap, subst, ◌∙◌, ◌⊎◌, inl, inr, true≢false}
use Rattle.std.proofs.lemmas.Bool.{eq-eqb, ne_eqb, eqb-true}
use Rattle.std.proofs.lemmas.Bool.Decides.{eqb_tells}
use Rattle.topology.proofs.Membership.{has-Contains, has-filter}
use Rattle.topology.specs.Graph.{Graph, IsGraph, AreLinked, are_linked, neighbours_of, has}
use Rattle.tree_layer.specs.declared.regs.TreeRegs.{TreeRegs}
use Rattle.wave_layer.specs.declared.regs.WaveRegs.{WaveRegs}
use Rattle.wave_layer.specs.declared.regs.FatherSeen.TheVariants.{Itself, Lost, Is}
use Rattle.wave_layer.specs.WaveTable.{is_root, children_done, is_done}
use Rattle.std.specs.Map.{lookup}
use Rattle.tree_layer.specs.TreeRows.{IsFather}
use Rattle.reset_model.specs.LocalSteps.{father_seen, children_of}

module _ (g : Graph) (t : ℕ → TreeRegs) (w : ℕ → WaveRegs) (i : ℕ) where
  pub father_seen-itself : (t i).father ≡ i → father_seen g t w i ≡ Itself
  father_seen-itself own =
      ap (λ b. cond b Itself (cond (are_linked g i (t i).father) (Is (w (t i).father)) Lost)) (eq-eqb _ _ own)

  other_father : (t i).father ≢ i → father_seen g t w i ≡ cond (are_linked g i (t i).father) (Is (w (t i).father)) Lost
  other_father other =
      ap (λ b. cond b Itself (cond (are_linked g i (t i).father) (Is (w (t i).father)) Lost)) (ne_eqb _ _ other)

  -- a father is seen with its registers
  pub father_seen-IsFather : IsGraph g → (j : ℕ) → IsFather g t i j → father_seen g t w i ≡ Is (w j)
  father_seen-IsFather graph j father =
      let linked : AreLinked g i (t i).father = rw father.named father.linked in
      other_father (λ own. graph.irreflexive i (let P : ℕ → Type 0 = λ k. AreLinked g i k in subst P own linked))
      ∙ ap (λ b. cond b (Is (w (t i).father)) Lost) linked ∙ ap (λ k. Is (w k)) father.named

  -- and what is seen with registers is the father
  pub IsFather-father_seen : (up : WaveRegs) → father_seen g t w i ≡ Is up
      → IsFather g t i (t i).father × (up ≡ w (t i).father)
  IsFather-father_seen up seen = own (eqb_tells (t i).father i) (are_linked g i (t i).father) refl
    where
      own : ((nat_eq (t i).father i ≡ true) × ((t i).father ≡ i))
          ⊎ ((nat_eq (t i).father i ≡ false) × ((t i).father ≢ i)) → (b : Bool) → are_linked g i (t i).father ≡ b
          → IsFather g t i (t i).father × (up ≡ w (t i).father)
      own (inl e) b linked = let h = father_seen-itself e.1 in cc
      own (inr e) true linked = (
        record { named = refl; linked = linked },
        let h = other_father e.1
            ∙ ap (λ b. cond b (Is (w (t i).father)) Lost) linked in cc,
      )
      own (inr e) false linked = let h = other_father e.1 ∙ ap (λ b. cond b (Is (w (t i).father)) Lost) linked in cc

  -- a node is a root where it is its own father
  pub is_root-father_seen : is_root (father_seen g t w i) ≡ nat_eq (t i).father i
  is_root-father_seen = flag (nat_eq (t i).father i) (are_linked g i (t i).father) (w (t i).father)
    where
      flag : (b d : Bool) (up : WaveRegs) → is_root (cond b Itself (cond d (Is up) Lost)) ≡ b
      flag true d up = refl
      flag false true up = refl
      flag false false up = refl

  -- only a root sees itself
  pub itself-father_seen : father_seen g t w i ≡ Itself → (t i).father ≡ i
  itself-father_seen seen = own (eqb_tells (t i).father i) (are_linked g i (t i).father) refl
    where
      own : ((nat_eq (t i).father i ≡ true) × ((t i).father ≡ i))
          ⊎ ((nat_eq (t i).father i ≡ false) × ((t i).father ≢ i)) → (b : Bool) → are_linked g i (t i).father ≡ b
          → (t i).father ≡ i
      own (inl e) b linked = e.1
      own (inr e) true linked = let h = other_father e.1 ∙ ap (λ b. cond b (Is (w (t i).father)) Lost) linked in cc
      own (inr e) false linked = let h = other_father e.1 ∙ ap (λ b. cond b (Is (w (t i).father)) Lost) linked in cc

or-true : (b : Bool) → (b || true) ≡ true
or-true true = refl
or-true false = refl

-- what a list of nodes with their registers has for an id
pub lookup-among : {X : Type 0} (w : ℕ → X) (cs : List ℕ) (c : ℕ)
    → lookup (λ k. k == c) (map (λ i. (i, w i)) cs) ≡ cond (has cs c) (Some (w c)) None
lookup-among w [] c = refl
lookup-among {X} w (y ∷ ys) c = at (eqb_tells y c) (lookup-among w ys c)
  where
    at : ((nat_eq y c ≡ true) × (y ≡ c)) ⊎ ((nat_eq y c ≡ false) × (y ≢ c))
        → lookup (λ k. k == c) (map (λ i. (i, w i)) ys) ≡ cond (has ys c) (Some (w c)) None
        → lookup (λ k. k == c) (map (λ i. (i, w i)) (y ∷ ys)) ≡ cond (has (y ∷ ys) c) (Some (w c)) None
    at (inl e) rest = rw e.0 (ap (λ k. Some (w k)) e.1)
    at (inr e) rest = rw e.0 rest

-- all are done where each is
pub children_done-each : (w : ℕ → WaveRegs) (s : ℕ) (cs : List ℕ) → ((c : ℕ) → has cs c ≡ true → is_done s (w c) ≡ true)
    → children_done s (map (λ i. (i, w i)) cs) ≡ true
children_done-each w s [] each = refl
children_done-each w s (y ∷ ys) each =
    let here : is_done s (w y) ≡ true = each y (ap (λ b. b || has ys y) (eq-eqb y y refl)) in
    let rest = children_done-each w s ys (λ c among. each c (ap (λ b. nat_eq y c || b) among ∙ or-true (nat_eq y c))) in
    rw here rest

-- and each is where all are
pub each-children_done : (w : ℕ → WaveRegs) (s : ℕ) (cs : List ℕ) → children_done s (map (λ i. (i, w i)) cs) ≡ true
    → (c : ℕ) → has cs c ≡ true → is_done s (w c) ≡ true
each-children_done w s [] all c among = absurd (true≢false (sym among))
each-children_done w s (y ∷ ys) all c among = at (is_done s (w y)) refl (eqb_tells y c) (each-children_done w s ys)
  where
    at : (b : Bool) → is_done s (w y) ≡ b → ((nat_eq y c ≡ true) × (y ≡ c)) ⊎ ((nat_eq y c ≡ false) × (y ≢ c))
        → (children_done s (map (λ i. (i, w i)) ys) ≡ true → (c : ℕ) → has ys c ≡ true → is_done s (w c) ≡ true)
        → is_done s (w c) ≡ true
    at true is (inl e) rest = ap (λ k. is_done s (w k)) (sym e.1) ∙ is
    at true is (inr e) rest = rest (rw is at all) c (rw e.0 at among)
    at false is e rest = absurd (true≢false (sym (rw is at all)))

-- a neighbour whose father register names i is a child, and no other node is
pub has-children_of : (g : Graph) (t : ℕ → TreeRegs) (i c : ℕ)
    → has (children_of g t i) c ≡ ((nat_eq (t c).father i) && (are_linked g i c && has g.ids c))
has-children_of g t i c =
    has-filter (λ x. (t x).father == i) (neighbours_of g i) c
    ∙ ap (λ b. nat_eq (t c).father i && b) (has-filter (are_linked g i) g.ids c)

pub IsFather-is_child : (g : Graph) (t : ℕ → TreeRegs) (i c : ℕ) → IsGraph g → IsFather g t c i
    → has (children_of g t i) c ≡ true
IsFather-is_child g t i c graph father =
    let linked : are_linked g i c ≡ true = graph.symmetric i c ∙ father.linked in
    let node : has g.ids c ≡ true = has-Contains _ _ (graph.within c (graph.ends c i father.linked)) in
    let named : nat_eq (t c).father i ≡ true = eq-eqb _ _ father.named in
    has-children_of g t i c ∙ cc

pub is_child-IsFather : (g : Graph) (t : ℕ → TreeRegs) (i c : ℕ) → IsGraph g → has (children_of g t i) c ≡ true
    → IsFather g t c i
is_child-IsFather g t i c graph child =
    at (nat_eq (t c).father i) (are_linked g i c) refl refl (sym (has-children_of g t i c) ∙ child)
  where
    at : (b d : Bool) → nat_eq (t c).father i ≡ b → are_linked g i c ≡ d
        → (nat_eq (t c).father i && (are_linked g i c && has g.ids c)) ≡ true → IsFather g t c i
    at true true named linked both = record { named = eqb-true _ _ named; linked = graph.symmetric c i ∙ linked }
    at true false named linked both = absurd (true≢false (sym (rw (named, linked) at both)))
    at false d named linked both = absurd (true≢false (sym (rw named at both)))
