-- The table of the indexes of ascending ids, while it is filled in their order.
use Rattle.std.proofs.Common.{◌≡◌, ℕ, ◌+◌, ◌-◌, ◌<◌, ◌≤◌, ◌≢◌, List, length, get_or, set, Option, Some, None, eqb}
use Rattle.std.proofs.Common.{position, refl, sym, ap, ap₂, subst, ◌∙◌, arith, ⊎_elim, Bool, true, false, not, ◌&&◌}
use Rattle.std.proofs.Common.{◌||◌, filter, eq-eqb, ne_eqb, if◌then◌else◌}
use Rattle.std.specs.List.Sorted.{IsStrictlyIncreasing}
use Rattle.std.proofs.lemmas.List.{get_or-set_same, get_or-set_other, get_or_default, length-set}
use Rattle.std.proofs.lemmas.List.Kept.{IsStrictlyIncreasing-filter}
use Rattle.std.proofs.lemmas.List.Quantifiers.{position-Some}
use Rattle.std.proofs.lemmas.Option.{none-some, same_Some}
use Rattle.std.proofs.lemmas.Bool.{cases_eq, eqb-true, and_parts}
use Rattle.topology.specs.Changing.{members_with, members_without}
use Rattle.topology.specs.Graph.{has}
use Rattle.topology.specs.Rows.{Membership, AreIndexed, AreIndexes, AreNodes}
use Rattle.topology.proofs.Ascending.{index_of_item, member_at, no_member_no_index, rises, rises_weakly}
use Rattle.topology.proofs.Membership.{Contains-has, has-Contains, has-filter}

-- the table has the indexes of the first n ids, and no other
pub record HasFirst (ids : List ℕ) (n : ℕ) (indexes : List (Option ℕ)) : Type 0 where
  pub found : (k : ℕ) → k < n → get_or indexes (get_or ids k 0) None ≡ Some k
  pub only : (id k : ℕ) → get_or indexes id None ≡ Some k → (k < n) × (get_or ids k 0 ≡ id)

-- the last id is the greatest
pub at_most_last : (ids : List ℕ) → IsStrictlyIncreasing ids → (k : ℕ) → k < length ids
    → get_or ids k 0 ≤ get_or ids (length ids - 1) 0
at_most_last ids up k within = rises_weakly ids up k (length ids - 1) (omega (arith, within)) (omega (arith, within))

module _ (ids : List ℕ) (up : IsStrictlyIncreasing ids) (n : ℕ) (indexes : List (Option ℕ))
    (first : HasFirst ids n indexes) where
  -- with the index of one more
  pub has_more : n < length ids → get_or ids n 0 < length indexes
      → HasFirst ids (n + 1) (set indexes (get_or ids n 0) (Some n))
  has_more within room =
      let x = get_or ids n 0 in
      let put = set indexes x (Some n) in
      record {
        found = λ k low.
            ⊎_elim (λ same. subst (λ j. get_or put (get_or ids j 0) None ≡ Some j) (sym same)
            (get_or-set_same indexes x (Some n) None room))
            (λ other.
            let earlier : k < n = omega (arith, low, other) in
            get_or-set_other indexes x (get_or ids k 0) (Some n) None
            (λ e. absurd (omega (arith, e, rises ids up k n earlier within))) ∙ first.found k earlier)
            (cases_eq k n);
        only = λ id k e.
            ⊎_elim
            (λ (here : id ≡ x).
            let last : n ≡ k =
            same_Some n k
            (sym (get_or-set_same indexes x (Some n) None room) ∙ ap (λ i. get_or put i None) (sym here) ∙ e) in
            (omega (arith, last), ap (λ j. get_or ids j 0) (sym last) ∙ sym here))
            (λ (there : id ≢ x).
            let before = first.only id k (sym (get_or-set_other indexes x id (Some n) None there) ∙ e) in
            (omega (arith, before.0), before.1))
            (cases_eq id x);
      }

-- with all of them it has the index of each
all_indexes : (ids : List ℕ) → IsStrictlyIncreasing ids → (indexes : List (Option ℕ))
    → HasFirst ids (length ids) indexes → (id : ℕ) → get_or indexes id None ≡ position (λ i. eqb i id) ids
all_indexes ids up indexes first id = of (get_or indexes id None) (position (λ i. eqb i id) ids) refl refl
  where
    of : (o p : Option ℕ) → get_or indexes id None ≡ o → position (λ i. eqb i id) ids ≡ p
        → get_or indexes id None ≡ position (λ i. eqb i id) ids
    of (Some k) p at _ =
        let at_k = first.only id k at in
        at ∙ index_of_item ids id up k at_k.0 at_k.1
    of None None at none = at ∙ sym none
    of None (Some k) at index =
        let found = position-Some (λ i. eqb i id) ids k 0 index in
        absurd (none-some k
        (sym at ∙ ap (λ i. get_or indexes i None) (sym (eqb-true (get_or ids k 0) id found.1))
        ∙ first.found k found.0))

-- with all of them it is the table of ids that are all up
pub has_all : (ids : List ℕ) → IsStrictlyIncreasing ids → (indexes : List (Option ℕ))
    → HasFirst ids (length ids) indexes → AreIndexes ids ids indexes
has_all ids up indexes first id = all_indexes ids up indexes first id ∙ if_member (has ids id) refl
  where
    if_member : (b : Bool) → has ids id ≡ b
        → position (λ i. eqb i id) ids ≡ (if has ids id then position (λ i. eqb i id) ids else None)
    if_member true is = rw is refl
    if_member false is = rw is (no_member_no_index ids id is)

-- ---- one node more or less

-- a list without a number
pub nodes_without : (ids nodes : List ℕ) → AreNodes ids nodes → (x : ℕ)
    → AreNodes ids (filter (λ j. not (eqb j x)) nodes)
nodes_without ids nodes are x = record {
  rising = IsStrictlyIncreasing-filter (λ j. not (eqb j x)) nodes are.rising;
  within = λ i at.
      let kept : (not (eqb i x) && has nodes i) ≡ true =
      sym (has-filter (λ j. not (eqb j x)) nodes i)
      ∙ has-Contains (filter (λ j. not (eqb j x)) nodes) i at in
      are.within i (Contains-has nodes i (and_parts (not (eqb i x)) (has nodes i) kept).1);
}

pub nodes_among : (ids : List ℕ) → IsStrictlyIncreasing ids → (p : ℕ → Bool) → AreNodes ids (filter p ids)
nodes_among ids up p = record {
  rising = IsStrictlyIncreasing-filter p ids up;
  within = λ i at.
      let kept : (p i && has ids i) ≡ true = sym (has-filter p ids i) ∙ has-Contains (filter p ids) i at in
      Contains-has ids i (and_parts (p i) (has ids i) kept).1;
}

only_new : (b : Bool) → ((b || true) && true) ≡ true
only_new true = refl
only_new false = refl

only_old : (b c : Bool) → (b ≡ true → c ≡ true) → ((b || false) && c) ≡ b
only_old true c to = to refl
only_old false c to = refl

module _ (members : Membership) (indexes : List (Option ℕ)) (are : AreIndexed members indexes) where
  abbrev index_at : Bool → ℕ → Option ℕ
  index_at b id = if b then position (λ i. eqb i id) members.ids else None

  -- a node has a place in the table
  pub node_room : (x : ℕ) → has members.nodes x ≡ true → x < length indexes
  node_room x up =
      let at = are.as_nodes.within x (Contains-has members.nodes x up) in
      omega (arith, are.room at.0 at.1, get_or_default members.ids at.0 0 x at.1, at.2)

  pub indexed_without : (x : ℕ) → has members.nodes x ≡ true
      → AreIndexed (members_without members x) (set indexes x None)
  indexed_without x up =
      let left : List ℕ = filter (λ j. not (eqb j x)) members.nodes in
      record {
        as_ids = are.as_ids;
        as_nodes = nodes_without members.ids members.nodes are.as_nodes x;
        room = λ k low. omega (arith, are.room k low, length-set indexes x None);
        as_indexes = λ id.
            ⊎_elim
            (λ (here : id ≡ x).
            let gone : has left x ≡ false =
            has-filter (λ j. not (eqb j x)) members.nodes x
            ∙ ap (λ b. not b && has members.nodes x) (eq-eqb x x refl) in
            subst (λ y. get_or (set indexes x None) y None ≡ index_at (has left y) y) (sym here)
            (get_or-set_same indexes x None None (node_room x up) ∙ sym (ap (λ b. index_at b x) gone)))
            (λ (other : id ≢ x).
            let kept : has left id ≡ has members.nodes id =
            has-filter (λ j. not (eqb j x)) members.nodes id
            ∙ ap (λ b. not b && has members.nodes id) (ne_eqb id x other) in
            get_or-set_other indexes x id None None other ∙ are.as_indexes id
            ∙ sym (ap (λ b. index_at b id) kept))
            (cases_eq id x);
      }

  pub indexed_with : (k : ℕ) → k < length members.ids
      → AreIndexed (members_with members (get_or members.ids k 0)) (set indexes (get_or members.ids k 0) (Some k))
  indexed_with k low =
      let x : ℕ = get_or members.ids k 0 in
      let more : List ℕ = filter (λ j. has members.nodes j || eqb j x) members.ids in
      record {
        as_ids = are.as_ids;
        as_nodes = nodes_among members.ids are.as_ids.ascending (λ j. has members.nodes j || eqb j x);
        room = λ l l_in. omega (arith, are.room l l_in, length-set indexes x (Some k));
        as_indexes = λ id.
            ⊎_elim
            (λ (here : id ≡ x).
            let new : has more x ≡ true =
            has-filter (λ j. has members.nodes j || eqb j x) members.ids x
            ∙ ap₂ (λ b c. (has members.nodes x || b) && c) (eq-eqb x x refl) (member_at members.ids k low)
            ∙ only_new (has members.nodes x) in
            subst (λ y. get_or (set indexes x (Some k)) y None ≡ index_at (has more y) y) (sym here)
            (get_or-set_same indexes x (Some k) None (are.room k low)
            ∙ index_of_item members.ids x are.as_ids.ascending k low refl
            ∙ sym (ap (λ b. index_at b x) new)))
            (λ (other : id ≢ x).
            let kept : has more id ≡ has members.nodes id =
            has-filter (λ j. has members.nodes j || eqb j x) members.ids id
            ∙ ap (λ b. (has members.nodes id || b) && has members.ids id) (ne_eqb id x other)
            ∙ only_old (has members.nodes id) (has members.ids id)
            (λ e. has-Contains members.ids id (are.as_nodes.within id (Contains-has members.nodes id e))) in
            get_or-set_other indexes x id (Some k) None other ∙ are.as_indexes id
            ∙ sym (ap (λ b. index_at b id) kept))
            (cases_eq id x);
      }
