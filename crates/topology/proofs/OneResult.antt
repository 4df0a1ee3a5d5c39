-- What two lists describe is one: one graph, or one first fault.
use Rattle.std.proofs.Common.{◌≡◌, ℕ, zero, suc, ◌+◌, ◌<◌, ◌⊎◌, List, [], ◌∷◌, ◌++◌, length, get_or, take, drop}
use Rattle.std.proofs.Common.{true, ◌&&◌, filter, Contains, refl, sym, ap, ap₂, subst, ◌∙◌, arith, inl, inr, ⊎_elim, length-append}
use Rattle.std.specs.List.Sorted.{IsStrictlyIncreasing}
use Rattle.std.specs.FinSet as set
use Rattle.std.specs.Cmp.{both_ways as same_tests}
use Rattle.std.proofs.lemmas.Bool.{and_parts, cases_order}
use Rattle.std.proofs.lemmas.List.Kept.{IsStrictlyIncreasing-filter}
use Rattle.std.proofs.lemmas.List.{get_or_append_left, get_or_at, get_or_default, take-append-le}
use Rattle.std.proofs.Math.Seq.{take-append_seam}
use Rattle.topology.specs.Faults.{HasFault, IsFirst, IsFirstFault, IsFirstRepeat, IsGraphOf, IsRepeated}
use Rattle.topology.specs.Faults.{rank_of}
use Rattle.topology.specs.Graph.{Graph, pair_cmp, AreLinked, IsGraph, IsNode, has, is_node}
use Rattle.topology.specs.declared.fault.TopoFault.{TopoFault}
use Rattle.topology.specs.declared.fault.TopoFault.TheVariants.{NoNodes, TooManyNodes, BadId, TwiceNode, TooManyLinks}
use Rattle.topology.specs.declared.fault.TopoFault.TheVariants.{StrangeNode, SelfLink, TwiceLink}
use Rattle.topology.specs.declared.fault.TopoFault.TheVariants.{NoSuchLink, LinkIsThere, NodeIsUp, NoMemory}
use Rattle.topology.proofs.Ascending.{rises}
use Rattle.topology.proofs.FirstItems.{split_at}
use Rattle.topology.proofs.Membership.{Contains-has, has-Contains, has-filter}
use Rattle.topology.proofs.RowLemmas.{pair_total, pair_antisymmetric}

-- ---- one ascending list

below_all : (x : ℕ) (xs : List ℕ) → IsStrictlyIncreasing (x ∷ xs) → (z : ℕ) → Contains xs z → x < z
below_all x xs up z (k, low, at) =
    subst (λ n. x < n) (sym (get_or_default xs k z 0 low) ∙ at)
    (rises (x ∷ xs) up 0 (suc k) (omega arith) (omega (arith, low)))

rest_up : (x : ℕ) (xs : List ℕ) → IsStrictlyIncreasing (x ∷ xs) → IsStrictlyIncreasing xs
rest_up x xs up k low =
    let e : suc k + 1 ≡ suc (k + 1) = omega arith in
    subst (λ n. get_or xs k 0 < get_or (x ∷ xs) n 0) e (up (suc k) (omega (arith, low)))

in_rest : (x z : ℕ) (xs : List ℕ) → Contains (x ∷ xs) z → (x ≡ z) ⊎ Contains xs z
in_rest x z xs (zero, low, at) = inl at
in_rest x z xs (suc k, low, at) = inr (k, omega (arith, low), at)

-- two ascending lists with the same members are one list
pub same_ascending : (xs ys : List ℕ) → IsStrictlyIncreasing xs → IsStrictlyIncreasing ys
    → ((z : ℕ) → Contains xs z → Contains ys z) → ((z : ℕ) → Contains ys z → Contains xs z) → xs ≡ ys
same_ascending [] [] xs_up ys_up to from = refl
same_ascending [] (y ∷ ys) xs_up ys_up to from = let k = from y (0, omega arith, refl) in absurd (omega (arith, k.1))
same_ascending (x ∷ xs) [] xs_up ys_up to from = let k = to x (0, omega arith, refl) in absurd (omega (arith, k.1))
same_ascending (x ∷ xs) (y ∷ ys) xs_up ys_up to from =
    ap₂ (λ n ns. n ∷ ns) head (same_ascending xs ys (rest_up x xs xs_up) (rest_up y ys ys_up) rest_to rest_from)
  where
    head : x ≡ y
    head =
        ⊎_elim (λ e. sym e)
        (λ x_in. ⊎_elim (λ e. e)
        (λ y_in. absurd (omega (arith, below_all x xs xs_up y y_in, below_all y ys ys_up x x_in)))
        (in_rest x y xs (from y (0, omega arith, refl))))
        (in_rest y x ys (to x (0, omega arith, refl)))

    rest_to : (z : ℕ) → Contains xs z → Contains ys z
    rest_to z z_in =
        ⊎_elim (λ e. absurd (omega (arith, head, e, below_all x xs xs_up z z_in))) (λ at. at)
        (in_rest y z ys (to z (suc z_in.0, omega (arith, z_in.1), z_in.2)))

    rest_from : (z : ℕ) → Contains ys z → Contains xs z
    rest_from z z_in =
        ⊎_elim (λ e. absurd (omega (arith, head, e, below_all y ys ys_up z z_in))) (λ at. at)
        (in_rest x z xs (from z (suc z_in.0, omega (arith, z_in.1), z_in.2)))

-- the nodes of a graph are those of its identifiers that are up
pub up_are_nodes : (g : Graph) → IsGraph g → filter (is_node g) g.ids ≡ g.nodes
up_are_nodes g are =
    same_ascending (filter (is_node g) g.ids) g.nodes (IsStrictlyIncreasing-filter (is_node g) g.ids are.ascending)
    are.rising
    (λ i at.
    let kept : (is_node g i && has g.ids i) ≡ true =
    sym (has-filter (is_node g) g.ids i) ∙ has-Contains (filter (is_node g) g.ids) i at in
    Contains-has g.nodes i (and_parts (is_node g i) (has g.ids i) kept).0)
    (λ i at. Contains-has (filter (is_node g) g.ids) i
    (has-filter (is_node g) g.ids i
    ∙ ap₂ (λ a b. a && b) (has-Contains g.nodes i at) (has-Contains g.ids i (are.within i at))))

-- ---- one graph

-- two graphs with the same identifiers, nodes and links are one
pub same_graph : (g h : Graph) → IsGraph g → IsGraph h → g.ids ≡ h.ids → ((i : ℕ) → IsNode g i → IsNode h i)
    → ((i : ℕ) → IsNode h i → IsNode g i) → ((a b : ℕ) → AreLinked g a b → AreLinked h a b)
    → ((a b : ℕ) → AreLinked h a b → AreLinked g a b) → g ≡ h
same_graph g h g_are h_are ids to from links_to links_from =
    let Parts : Type 0 = List ℕ × (List ℕ × set.FinSet pair_cmp) in
    let whole : Parts → Graph = λ p. record { ids = p.0; nodes = p.1.0; links = p.1.1 } in
    let parts : (g.ids, (g.nodes, g.links)) ≡ (h.ids, (h.nodes, h.links)) =
    ap₂ (λ a b. (a, b)) ids (ap₂ (λ a b. (a, b)) nodes pairs) in
    ap whole parts
  where
    nodes : g.nodes ≡ h.nodes
    nodes = same_ascending g.nodes h.nodes g_are.rising h_are.rising to from

    pairs : g.links ≡ h.links
    pairs =
        set.same_set pair_total pair_antisymmetric g.links h.links
        (λ p. same_tests _ _ (λ e. links_to p.0 p.1 e) (λ e. links_from p.0 p.1 e))

pub one_graph : (nodes : List ℕ) (links : List (ℕ × ℕ)) (g h : Graph) → IsGraphOf nodes links g
    → IsGraphOf nodes links h → g ≡ h
one_graph nodes links g h of_g of_h =
    let to : (i : ℕ) → IsNode g i → IsNode h i = λ i at. (of_h.same_nodes i).1 ((of_g.same_nodes i).0 at) in
    let from : (i : ℕ) → IsNode h i → IsNode g i = λ i at. (of_g.same_nodes i).1 ((of_h.same_nodes i).0 at) in
    let nodes = same_ascending g.nodes h.nodes of_g.as_graph.rising of_h.as_graph.rising to from in
    same_graph g h of_g.as_graph of_h.as_graph (sym of_g.up ∙ nodes ∙ of_h.up) to from
    (λ a b e. (of_h.same_links a b).1 ((of_g.same_links a b).0 e))
    (λ a b e. (of_g.same_links a b).1 ((of_h.same_links a b).0 e))

-- ---- one first item

module _ {X : Type 0} (xs : List X) where
  module _ (prefix rest : List X) (x : X) (whole : xs ≡ prefix ++ x ∷ rest) where
    -- the item behind a part of the list, and the part
    item_at : get_or xs (length prefix) x ≡ x
    item_at = ap (λ ys. get_or ys (length prefix) x) whole ∙ get_or_at prefix x rest x (length prefix) refl

    part_is : take (length prefix) xs ≡ prefix
    part_is = ap (take (length prefix)) whole ∙ take-append_seam prefix (x ∷ rest)

    within : length prefix < length xs
    within = omega (arith, ap length whole, length-append prefix (x ∷ rest))

  module _ (prefix rest : List X) (x : X) (whole : xs ≡ prefix ++ x ∷ rest) (behind more : List X) (y : X)
      (other : xs ≡ behind ++ y ∷ more) where
    -- the item of a shorter part stands in the longer one
    item_in : length prefix < length behind → get_or behind (length prefix) x ≡ x
    item_in less =
        sym (get_or_append_left behind (y ∷ more) x (length prefix) less)
        ∙ ap (λ ys. get_or ys (length prefix) x) (sym other) ∙ item_at prefix rest x whole

    part_in : length prefix < length behind → prefix ≡ take (length prefix) behind
    part_in less =
        sym (part_is prefix rest x whole) ∙ ap (take (length prefix)) other
        ∙ take-append-le (length prefix) behind (y ∷ more) (omega (arith, less))

    -- two parts of which neither is the longer one end at one item
    one_item : (length prefix < length behind → ⊥) → (length behind < length prefix → ⊥) → x ≡ y
    one_item not_less not_more =
        ⊎_elim
        (λ same.
        sym (item_at prefix rest x whole) ∙ get_or_default xs (length prefix) x y (within prefix rest x whole)
        ∙ ap (λ k. get_or xs k y) same
        ∙ item_at behind more y other)
        (λ apart. ⊎_elim (λ less. absurd (not_less less)) (λ longer. absurd (not_more longer)) apart)
        (cases_order (length prefix) (length behind))

  pub one_first : (P : X → Type 0) (x y : X) → IsFirst P xs x → IsFirst P xs y → x ≡ y
  one_first P x y a b =
      one_item a.prefix a.rest x a.whole b.prefix b.rest y b.whole
      (λ less. b.before x
      (length a.prefix, less, item_in a.prefix a.rest x a.whole b.prefix b.rest y b.whole less) a.here)
      (λ less. a.before y
      (length b.prefix, less, item_in b.prefix b.rest y b.whole a.prefix a.rest x a.whole less) b.here)

  repeats_in : (x y : X) (a : IsFirstRepeat xs x) (b : IsFirstRepeat xs y) → length a.prefix < length b.prefix
      → IsRepeated b.prefix x
  repeats_in x y a b less =
      let k = length a.prefix in
      record {
        prefix = take k b.prefix;
        rest = drop (k + 1) b.prefix;
        whole = split_at b.prefix k x less
            ∙ ap (λ z. take k b.prefix ++ z ∷ drop (k + 1) b.prefix)
            (item_in a.prefix a.rest x a.whole b.prefix b.rest y b.whole less);
        earlier =
            subst (λ ys. Contains ys x) (part_in a.prefix a.rest x a.whole b.prefix b.rest y b.whole less) a.earlier;
      }

  pub one_first_repeat : (x y : X) → IsFirstRepeat xs x → IsFirstRepeat xs y → x ≡ y
  one_first_repeat x y a b =
      one_item a.prefix a.rest x a.whole b.prefix b.rest y b.whole
      (λ less. b.distinct x (repeats_in x y a b less)) (λ less. a.distinct y (repeats_in y x b a less))

-- ---- one first fault

module _ (nodes : List ℕ) (links : List (ℕ × ℕ)) where
  same_rank : (f e : TopoFault) → rank_of f ≡ rank_of e → HasFault nodes links f → HasFault nodes links e → f ≡ e
  same_rank NoNodes NoNodes same a b = refl
  same_rank TooManyNodes TooManyNodes same a b = refl
  same_rank (BadId m) (BadId n) same a b = ap BadId (one_first nodes _ m n a b)
  same_rank (TwiceNode m) (TwiceNode n) same a b = ap TwiceNode (one_first_repeat nodes m n a b)
  same_rank TooManyLinks TooManyLinks same a b = refl
  same_rank (StrangeNode m) (StrangeNode n) same a b = ap StrangeNode (one_first _ _ m n a b)
  same_rank (SelfLink m) (SelfLink n) same a b = ap (λ (l : ℕ × ℕ). SelfLink l.0) (one_first links _ (m, m) (n, n) a b)
  same_rank (TwiceLink i j) (TwiceLink m n) same a b =
      ap (λ (l : ℕ × ℕ). TwiceLink l.0 l.1) (one_first_repeat _ (i, j) (m, n) a b)
  same_rank NoMemory e same a b = absurd a
  same_rank NoSuchLink e same a b = absurd a
  same_rank LinkIsThere e same a b = absurd a
  same_rank NodeIsUp e same a b = absurd a
  same_rank f NoMemory same a b = absurd b
  same_rank f e same a b = absurd (omega (arith, same))

  pub one_first_fault : (f e : TopoFault) → IsFirstFault nodes links f → IsFirstFault nodes links e → f ≡ e
  one_first_fault f e a b =
      ⊎_elim (λ same. same_rank f e same a.fault b.fault)
      (λ apart. ⊎_elim (λ less. absurd (b.first f less a.fault)) (λ less. absurd (a.first e less b.fault)) apart)
      (cases_order (rank_of f) (rank_of e))
