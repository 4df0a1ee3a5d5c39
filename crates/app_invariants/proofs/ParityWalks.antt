-- What the marks of a search over the doubled rows tell of walks.
use Rattle.std.proofs.Common.{◌≡◌, ℕ, zero, suc, ◌+◌, ◌-◌, ◌/◌, ◌%◌, ◌<◌, ◌≤◌, ◌⊎◌, true, false, cond, List, [], ◌∷◌}
use Rattle.std.proofs.Common.{length, get_or, inl, inr, refl, sym, ap, ◌∙◌, subst, arith, ⊎_elim, eq-eqb, ne_eqb, leb}
use Rattle.std.specs.Cmp.{both_ways as same_tests}
use Rattle.std.proofs.lemmas.Bool.{cases_Bool, cases_eq, le-leb, leb-true}
use Rattle.topology.specs.Graph.{Graph, IsGraph, IsWalk, AreLinked}
use Rattle.topology.specs.Rows.{near_has}
use Rattle.topology.specs.Searching.{AreDistances}
use Rattle.topology.proofs.Ascending.{index_once}
use Rattle.topology.proofs.Walks.{index_of_node, linked_back}
use Rattle.app_invariants.specs.LawsOfWrongEntries.{test_of_walk, walk_of_test}
use Rattle.app_invariants.specs.Parities.{AreDoubled, TellsWalks, place_for}
use Rattle.app_invariants.specs.WrongEntries.{is_walked}
use Rattle.app_invariants.proofs.Doubling.{joins, to_even, to_odd}

-- ---- places

even_place : (n k links : ℕ) → links % 2 ≡ 0 → place_for n k links ≡ k
even_place n k links even = ap (λ b. cond b k (n + k)) (eq-eqb (links % 2) 0 even)

odd_place : (n k links : ℕ) → links % 2 ≡ 1 → place_for n k links ≡ n + k
odd_place n k links odd = ap (λ b. cond b k (n + k)) (ne_eqb (links % 2) 0 (λ e. absurd (omega (arith, e, odd))))

-- a number is even or odd
parity : (links : ℕ) → (links % 2 ≡ 0) ⊎ (links % 2 ≡ 1)
parity links = ⊎_elim (λ even. inl even) (λ odd. inr (omega (arith, odd))) (cases_eq (links % 2) 0)

pub low_place : (n k links : ℕ) → k < n → place_for n k links < n + n
low_place n k links lt =
    ⊎_elim
    (λ even. omega (arith, even_place n k links even, lt))
    (λ odd. omega (arith, odd_place n k links odd, lt))
    (parity links)

-- ---- marks

module _ (g : Graph) (are : IsGraph g) (rows : List (List ℕ)) (doubled : AreDoubled g rows) (start : ℕ)
    (start_in : start < length g.ids) (marks : List ℕ)
    (found : AreDistances (length g.ids + length g.ids) rows start marks) where
  abbrev n : ℕ
  n = length g.ids

  abbrev id : ℕ → ℕ
  id k = get_or g.ids k 0

  abbrev mark : ℕ → ℕ
  mark place = get_or marks place 0

  -- a walk of so many links from index k to the start
  abbrev HasWalk : ℕ → ℕ → ℕ → Type 0
  HasWalk k links odd = (cs : List ℕ) × IsWalk g (id k) cs (id start) × (length cs ≡ links) × (links % 2 ≡ odd)

  -- a mark at an even place, and one at an odd place
  abbrev EvenWalks : ℕ → Type 0
  EvenWalks m = (k : ℕ) → k < n → mark k ≡ m → m < n + n → HasWalk k m 0

  abbrev OddWalks : ℕ → Type 0
  OddWalks m = (k : ℕ) → k < n → mark (n + k) ≡ m → m < n + n → HasWalk k m 1

  walk_on : (k b m odd next : ℕ) → AreLinked g (id k) (id b) → HasWalk b m odd → suc m % 2 ≡ next → HasWalk k (suc m) next
  walk_on k b m odd next linked (cs, w, long, is) e = (id b ∷ cs, (linked, w), ap suc long, e)

  walks : (m : ℕ) → EvenWalks m × OddWalks m
  walks zero = (
    λ k k_in e low.
        ⊎_elim
        (λ here. ([], ap id here.1, refl, refl))
        (λ more. absurd (omega (arith, more.3, e)))
        (found.are_reached.reached k (omega (arith, k_in)) (omega (arith, e, low))),
    λ k k_in e low.
        ⊎_elim
        (λ here. absurd (omega (arith, here.1, start_in)))
        (λ more. absurd (omega (arith, more.3, e)))
        (found.are_reached.reached (n + k) (omega (arith, k_in)) (omega (arith, e, low))),
  )
  walks (suc m) =
      let rest = walks m in (
        λ k k_in e low.
            ⊎_elim
            (λ here. absurd (omega (arith, here.0, e)))
            (λ more.
            let l = joins g are rows doubled k more.0 more.2 in
            ⊎_elim
            (λ even.
            let w = rest.1 l.to l.to_in (ap mark (sym even.1) ∙ omega (arith, more.3, e)) (omega (arith, low)) in
            walk_on k l.to m 1 0 (subst (λ i. AreLinked g (id i) (id l.to)) (sym even.0) l.linked) w
            (omega (arith, w.3)))
            (λ odd. absurd (omega (arith, odd.0, k_in)))
            l.places)
            (found.are_reached.reached k (omega (arith, k_in)) (omega (arith, e, low))),
        λ k k_in e low.
            ⊎_elim
            (λ here. absurd (omega (arith, here.0, e)))
            (λ more.
            let l = joins g are rows doubled (n + k) more.0 more.2 in
            ⊎_elim
            (λ even. absurd (omega (arith, even.0, l.from_in)))
            (λ odd.
            let same : k ≡ l.from = omega (arith, odd.0) in
            let w = rest.0 l.to l.to_in (ap mark (sym odd.1) ∙ omega (arith, more.3, e)) (omega (arith, low)) in
            walk_on k l.to m 0 1 (subst (λ i. AreLinked g (id i) (id l.to)) (sym same) l.linked) w
            (omega (arith, w.3)))
            l.places)
            (found.are_reached.reached (n + k) (omega (arith, k_in)) (omega (arith, e, low))),
      )

  -- a link leads to the places of one link more
  crosses : (a b links : ℕ) → a < n → b < n → AreLinked g (id a) (id b)
      → near_has rows (place_for n a links) (place_for n b (suc links)) ≡ true
  crosses a b links a_in b_in linked =
      ⊎_elim
      (λ even.
      let next : place_for n b (suc links) ≡ n + b = odd_place n b (suc links) (omega (arith, even)) in
      rw (even_place n a links even, next) (to_odd g are rows doubled a b a_in b_in linked))
      (λ odd.
      let next : place_for n b (suc links) ≡ b = even_place n b (suc links) (omega (arith, odd)) in
      rw (odd_place n a links odd, next) (to_even g are rows doubled a b a_in b_in linked))
      (parity links)

  -- no walk has fewer links than the mark of its parity
  least : (cs : List ℕ) (k : ℕ) → k < n → IsWalk g (id k) cs (id start)
      → (mark (place_for n k (length cs)) < n + n) × (mark (place_for n k (length cs)) ≤ length cs)
  least [] k k_in w =
      let same : k ≡ start = index_once g.ids are.ascending k start k_in start_in w in
      let here : mark k ≡ 0 = ap mark same ∙ found.are_reached.at_start in
      (omega (arith, here, k_in), omega (arith, here))
  least (c ∷ cs) k k_in w =
      let back = linked_back g are (id k) c w.0 in
      let at = index_of_node g.ids c (are.within c (are.ends c (id k) back)) in
      let rest = least cs at.0 at.1 (subst (λ x. IsWalk g x cs (id start)) (sym at.2) w.1) in
      let near =
      crosses at.0 k (length cs) at.1 k_in (subst (λ x. AreLinked g x (id k)) (sym at.2) back) in
      let step =
      found.closed (place_for n at.0 (length cs)) (place_for n k (suc (length cs)))
      (low_place n at.0 (length cs) at.1) near rest.0 in
      (step.0, omega (arith, step.1, rest.1))

  pub tells_walks : TellsWalks g (id start) marks
  tells_walks = record {
    count = found.are_reached.count;
    walk = λ k links k_in low.
        ⊎_elim
        (λ even.
        let at : place_for n k links ≡ k = even_place n k links even in
        let w = (walks (mark k)).0 k k_in refl (subst (λ p. mark p < n + n) at low) in
        subst (λ p. (cs : List ℕ) × IsWalk g (id k) cs (id start) × (length cs ≡ mark p) × (mark p % 2 ≡ links % 2)) (sym at)
        (w.0, w.1, w.2, w.3 ∙ sym even))
        (λ odd.
        let at : place_for n k links ≡ n + k = odd_place n k links odd in
        let w = (walks (mark (n + k))).1 k k_in refl (subst (λ p. mark p < n + n) at low) in
        subst (λ p. (cs : List ℕ) × IsWalk g (id k) cs (id start) × (length cs ≡ mark p) × (mark p % 2 ≡ links % 2)) (sym at)
        (w.0, w.1, w.2, w.3 ∙ sym odd))
        (parity links);
    least = λ k cs k_in w. least cs k k_in w;
  }

-- ---- walks of exactly so many links

module _ (g : Graph) (are : IsGraph g) where
  -- back and forth over a link first
  pub longer : (a j d : ℕ) → AreLinked g a j → (times : ℕ) (cs : List ℕ) → IsWalk g a cs d
      → (ds : List ℕ) × IsWalk g a ds d × (length ds ≡ length cs + (times + times))
  longer a j d linked zero cs w = (cs, w, omega arith)
  longer a j d linked (suc times) cs w =
      let more = longer a j d linked times cs w in
      (j ∷ a ∷ more.0, (linked, (linked_back g are a j linked, more.1)), omega (arith, more.2))

  -- where no link begins at a node, no walk of some links does
  pub no_walk : (a d links : ℕ) → 0 < links → ((j : ℕ) → AreLinked g a j → ⊥) → is_walked g a d links ≡ false
  no_walk a d links some none =
      ⊎_elim (λ t. let w = walk_of_test g a d links t in absurd (stuck w.0 w.1 w.2)) (λ f. f)
      (cases_Bool (is_walked g a d links))
    where
      stuck : (cs : List ℕ) → IsWalk g a cs d → length cs ≡ links → ⊥
      stuck [] w e = omega (arith, some, e)
      stuck (c ∷ cs) w e = none c w.0

  module _ (d : ℕ) (marks : List ℕ) (tells : TellsWalks g d marks) (k links : ℕ) (k_in : k < length g.ids) where
    abbrev at : ℕ
    at = get_or marks (place_for (length g.ids) k links) 0

    -- each walk of so many links
    no_fewer : is_walked g (get_or g.ids k 0) d links ≡ true → (at < length g.ids + length g.ids) × (at ≤ links)
    no_fewer t =
        let w = walk_of_test g (get_or g.ids k 0) d links t in
        subst
        (λ m. (get_or marks (place_for (length g.ids) k m) 0 < length g.ids + length g.ids)
        × (get_or marks (place_for (length g.ids) k m) 0 ≤ m))
        w.2 (tells.least k w.0 k_in w.1)

    pub unreached : length g.ids + length g.ids ≤ at → is_walked g (get_or g.ids k 0) d links ≡ false
    unreached high =
        ⊎_elim (λ t. absurd (omega (arith, (no_fewer t).0, high))) (λ f. f)
        (cases_Bool (is_walked g (get_or g.ids k 0) d links))

    reached : at < length g.ids + length g.ids → at ≤ links → (0 < links → (j : ℕ) × AreLinked g (get_or g.ids k 0) j)
        → is_walked g (get_or g.ids k 0) d links ≡ true
    reached low short begins =
        let w = tells.walk k links k_in low in
        ⊎_elim
        (λ none.
        let long : length w.0 ≡ links = omega (arith, w.2, none, short) in
        subst (λ m. is_walked g (get_or g.ids k 0) d m ≡ true) long (test_of_walk g are (get_or g.ids k 0) d w.0 w.1))
        (λ some.
        let first = begins (omega (arith, some)) in
        let more = longer (get_or g.ids k 0) first.0 d first.1 ((links - at) / 2) w.0 w.1 in
        let long : length more.0 ≡ links = omega (arith, more.2, w.2, w.3, short) in
        subst (λ m. is_walked g (get_or g.ids k 0) d m ≡ true) long
        (test_of_walk g are (get_or g.ids k 0) d more.0 more.1))
        (cases_eq links 0)

    -- the mark tells whether there is one
    pub mark_decides : at < length g.ids + length g.ids → (0 < links → (j : ℕ) × AreLinked g (get_or g.ids k 0) j)
        → leb at links ≡ is_walked g (get_or g.ids k 0) d links
    mark_decides low begins =
        same_tests _ _ (λ short. reached low (leb-true at links short) begins) (λ t. le-leb at links (no_fewer t).1)
