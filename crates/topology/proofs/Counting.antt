-- How many links a graph of distinct links has.
use Rattle.std.proofs.Common.{◌≡◌, ◌≢◌, ℕ, suc, ◌+◌, ◌*◌, Bool, true, false, ◌||◌, min, max, List, [], ◌∷◌, length, All}
use Rattle.std.proofs.Common.{AllPairs, sym, refl, ap, ap₂, subst, ◌∙◌, arith, ⊎_elim}
use Rattle.std.specs.List.{list_any}
use Rattle.std.specs.FinSet as set
use Rattle.std.specs.Ordering.{eq_by_cmp}
use Rattle.std.specs.Cmp.{both_ways as same_tests}
use Rattle.std.proofs.lemmas.Bool.{or_cases, or_left, or_right, false_from_ne_true, cond-false}
use Rattle.std.proofs.lemmas.List.Elements.{All-head, All-tail}
use Rattle.topology.specs.Building.{joins}
use Rattle.topology.specs.Faults.{IsGraphOf, ordered_links}
use Rattle.topology.specs.Graph.{pair_cmp}
use Rattle.topology.specs.Rows.{graph_of, links_of}
use Rattle.topology.proofs.FaultOrder.{link_from_join, join_from_link}
use Rattle.topology.proofs.Inserting.{joins_ends, joins_own, joins_back}
use Rattle.topology.proofs.Joining.{ordered_from_joins}
use Rattle.topology.proofs.RowLemmas.{pair_antisymmetric, pair_total, same_pair, pair_itself}

-- each link in both directions
abbrev both_directions : List (ℕ × ℕ) → List (ℕ × ℕ)
both_directions [] = []
both_directions (l ∷ ls) = (l.0, l.1) ∷ (l.1, l.0) ∷ both_directions ls

-- a pair is one of the two directions of a link
pub one_direction : (a b : ℕ) (l : ℕ × ℕ)
    → (eq_by_cmp pair_cmp (a, b) (l.0, l.1) || eq_by_cmp pair_cmp (a, b) (l.1, l.0)) ≡ joins a b l
one_direction a b l =
    same_tests _ _
    (λ e.
    ⊎_elim
    (λ x. let same : ◌≡◌ {A = ℕ × ℕ} (a, b) (l.0, l.1) = same_pair (a, b) (l.0, l.1) x in subst
    (λ (p : ℕ × ℕ). joins p.0 p.1 l ≡ true) (sym same) (joins_own l.0 l.1))
    (λ x. let same : ◌≡◌ {A = ℕ × ℕ} (a, b) (l.1, l.0) = same_pair (a, b) (l.1, l.0) x in
    subst (λ (p : ℕ × ℕ). joins p.0 p.1 l ≡ true) (sym same) (joins_back l.1 l.0 l ∙ joins_own l.0 l.1))
    (or_cases (eq_by_cmp pair_cmp (a, b) (l.0, l.1)) (eq_by_cmp pair_cmp (a, b) (l.1, l.0)) e))
    (λ e.
    ⊎_elim
    (λ (p : (l.0 ≡ a) × (l.1 ≡ b)).
    or_left (eq_by_cmp pair_cmp (a, b) (l.0, l.1)) (eq_by_cmp pair_cmp (a, b) (l.1, l.0))
    (subst (λ (q : ℕ × ℕ). eq_by_cmp pair_cmp (a, b) q ≡ true) (ap₂ (λ x y. (x, y)) (sym p.0) (sym p.1))
    (pair_itself (a, b))))
    (λ (p : (l.0 ≡ b) × (l.1 ≡ a)).
    or_right (eq_by_cmp pair_cmp (a, b) (l.0, l.1)) (eq_by_cmp pair_cmp (a, b) (l.1, l.0))
    (subst (λ (q : ℕ × ℕ). eq_by_cmp pair_cmp (a, b) q ≡ true) (ap₂ (λ x y. (x, y)) (sym p.1) (sym p.0))
    (pair_itself (a, b))))
    (joins_ends a b l e))

or_assoc : (a b c : Bool) → (a || (b || c)) ≡ ((a || b) || c)
or_assoc true b c = refl
or_assoc false b c = refl

any_direction : (a b : ℕ) (links : List (ℕ × ℕ))
    → list_any (eq_by_cmp pair_cmp (a, b)) (both_directions links) ≡ list_any (joins a b) links
any_direction a b [] = refl
any_direction a b (l ∷ ls) =
    or_assoc (eq_by_cmp pair_cmp (a, b) (l.0, l.1)) (eq_by_cmp pair_cmp (a, b) (l.1, l.0))
    (list_any (eq_by_cmp pair_cmp (a, b)) (both_directions ls))
    ∙ ap₂ (λ x y. x || y) (one_direction a b l) (any_direction a b ls)

abbrev set_of : List (ℕ × ℕ) → set.FinSet pair_cmp
set_of links = set.from_list (both_directions links)

set_has : (a b : ℕ) (links : List (ℕ × ℕ)) → set.contains (set_of links) (a, b) ≡ list_any (joins a b) links
set_has a b links = set.contains-from_list pair_total (both_directions links) (a, b) ∙ any_direction a b links

pairs_tail : (xs : List (ℕ × ℕ)) (x : ℕ × ℕ) → AllPairs (λ p q. p ≢ q) (x ∷ xs) → AllPairs (λ p q. p ≢ q) xs
pairs_tail xs x apart i j d less within = apart (suc i) (suc j) d (omega arith) (omega arith)

-- the first of distinct links joins no ends that a later one joins
first_apart : (l : ℕ × ℕ) (ls : List (ℕ × ℕ)) → AllPairs (λ p q. p ≢ q) (ordered_links (l ∷ ls))
    → list_any (joins l.0 l.1) ls ≡ false
first_apart l ls apart =
    false_from_ne_true _ (λ e.
    let at = ordered_from_joins l.0 l.1 ls e in
    apart 0 (suc at.0) (min l.0 l.1, max l.0 l.1) (omega arith) (omega (arith, at.1)) (sym at.2))

-- a link that a set has in neither direction gives it two pairs
pub len_both : (s : set.FinSet pair_cmp) (a b : ℕ) → a ≢ b → set.contains s (a, b) ≡ false
    → set.contains s (b, a) ≡ false →
    set.len (set.insert (set.insert s (a, b)) (b, a)) ≡ set.len s + 2
len_both s a b different here back =
    let apart : eq_by_cmp pair_cmp (b, a) (a, b) ≡ false =
    false_from_ne_true _ (λ e. different (sym (ap (λ (p : ℕ × ℕ). p.0) (same_pair (b, a) (a, b) e)))) in
    let absent : set.contains (set.insert s (a, b)) (b, a) ≡ false =
    set.contains-insert pair_total s (a, b) (b, a) ∙ ap₂ (λ x y. x || y) apart back in
    let inner : set.len (set.insert s (a, b)) ≡ set.len s + 1 =
    set.len-insert pair_total s (a, b) ∙ cond-false _ _ _ here in
    let outer : set.len (set.insert (set.insert s (a, b)) (b, a)) ≡ set.len (set.insert s (a, b)) + 1 =
    set.len-insert pair_total (set.insert s (a, b)) (b, a) ∙ cond-false _ _ _ absent in
    outer ∙ omega (arith, inner)

-- distinct links give two pairs each
pub length_both : (links : List (ℕ × ℕ)) → AllPairs (λ p q. p ≢ q) (ordered_links links) → All (λ l. l.0 ≢ l.1) links
    → set.len (set_of links) ≡ 2 * length links
length_both [] once apart = set.len-empty pair_cmp
length_both (l ∷ ls) once apart =
    let a = l.0 in
    let b = l.1 in
    let rest = set_of ls in
    let absent : list_any (joins a b) ls ≡ false = first_apart l ls once in
    let no_back : set.contains rest (b, a) ≡ false = set_has b a ls ∙ any_back ls ∙ absent in
    let outer : set.len (set.insert (set.insert rest (b, a)) (a, b)) ≡ set.len rest + 2 =
    len_both rest b a (λ e. All-head (λ (m : ℕ × ℕ). m.0 ≢ m.1) l ls apart (sym e)) no_back (set_has a b ls ∙ absent) in
    let later : set.len rest ≡ 2 * length ls =
    length_both ls (pairs_tail (ordered_links ls) (min a b, max a b) once)
    (All-tail (λ (m : ℕ × ℕ). m.0 ≢ m.1) l ls apart) in
    outer ∙ omega arith
  where
    any_back : (ls : List (ℕ × ℕ)) → list_any (joins l.1 l.0) ls ≡ list_any (joins l.0 l.1) ls
    any_back [] = refl
    any_back (m ∷ ms) = ap₂ (λ x y. x || y) (joins_back l.1 l.0 m) (any_back ms)

-- the pairs of a graph of the links
pub links_counted : (nodes ids : List ℕ) (links : List (ℕ × ℕ)) (rows : List (List ℕ))
    → IsGraphOf nodes links (graph_of ids ids rows) →
    AllPairs (λ p q. p ≢ q) (ordered_links links) → All (λ l. l.0 ≢ l.1) links
    → 2 * length links ≡ set.len (links_of ids rows)
links_counted nodes ids links rows of_lists once apart =
    let same : links_of ids rows ≡ set_of links =
    set.same_set pair_total pair_antisymmetric (links_of ids rows) (set_of links)
    (λ q.
    same_tests _ _
    (λ e. set_has q.0 q.1 links ∙ join_from_link q.0 q.1 links ((of_lists.same_links q.0 q.1).0 e))
    (λ e. (of_lists.same_links q.0 q.1).1 (link_from_join q.0 q.1 links (sym (set_has q.0 q.1 links) ∙ e)))) in
    sym (ap set.len same ∙ length_both links once apart)
