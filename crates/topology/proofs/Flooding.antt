-- A start becomes the leader of what it reaches, in the order of a queue.
use Rattle.std.proofs.Common.{◌≡◌, ◌≢◌, ℕ, ◌+◌, ◌<◌, ◌≤◌, true, List, [], ◌∷◌, length, get_or, set, sym, ap, subst}
use Rattle.std.proofs.Common.{◌∙◌, arith, inl, inr, ⊎_elim, eqb}
use Rattle.std.proofs.lemmas.Bool.{cases_Bool, cases_eq, cases_lt}
use Rattle.std.proofs.lemmas.List.{length-set, get_or-set_same, get_or-set_other, get_or_past}
use Rattle.std.proofs.lemmas.List.Sums.{count_by-le-length}
use Rattle.topology.specs.Rows.{row_at, near_has, AreRows}
use Rattle.topology.specs.Searching.{unmarked, IsRowWalk, KeepsOrFollows, LeadsReached, MarksRow, QueuesMarked}
use Rattle.topology.proofs.BreadthFirst.{one_fewer}

-- the queue has the indexes that got the start for their leader, and the neighbours of those before the place
-- that had none have it too
pub record AreFollowing (n : ℕ) (rows : List (List ℕ)) (start place : ℕ) (old leaders queue : List ℕ) : Type 0 where
  pub count : length leaders ≡ length old
  pub itself : get_or leaders start 0 ≡ start
  pub each : (k : ℕ) → KeepsOrFollows n rows start old leaders k
  pub room : length queue + unmarked n leaders ≤ n
  pub follow : (p : ℕ) → p < length queue
      → (get_or queue p 0 < n) × (get_or old (get_or queue p 0) 0 ≡ n) × (get_or leaders (get_or queue p 0) 0 ≡ start)
  pub found : (k : ℕ) → get_or old k 0 ≡ n → get_or leaders k 0 ≢ n
      → (p : ℕ) × (p < length queue) × (get_or queue p 0 ≡ k)
  pub closed : (p j : ℕ) → p < place → p < length queue → near_has rows (get_or queue p 0) j ≡ true
      → get_or old j 0 ≡ n → get_or leaders j 0 ≡ start

module _ (n : ℕ) (rows : List (List ℕ)) (start : ℕ) (start_in : start < n) (old : List ℕ) (count : length old ≡ n) where
  -- what has no leader is an index
  within_old : (k : ℕ) → get_or old k 0 ≡ n → k < n
  within_old k free =
      ⊎_elim (λ inside. omega (arith, count))
      (λ past. absurd (omega (arith, get_or_past old k 0 past, free)))
      (cases_lt k (length old))

  -- ---- one index of the queue after another

  module _ (are : AreRows n rows) (place : ℕ) (now before : List ℕ)
      (following : AreFollowing n rows start place old now before) (place_in : place < length before)
      (new after : List ℕ) (marks : MarksRow n (row_at rows (get_or before place 0)) start now new)
      (queues : QueuesMarked n start now new before after) where
    abbrev index : ℕ
    index = get_or before place 0

    was_free : (k : ℕ) → get_or now k 0 ≡ n → get_or old k 0 ≡ n
    was_free k free = ⊎_elim (λ same. sym same ∙ free) (λ led. led.0) (following.each k)

    same_start : (k : ℕ) → get_or now k 0 ≡ start → get_or new k 0 ≡ start
    same_start k is = marks.kept k (λ e. absurd (omega (arith, is, e))) ∙ is

    walk_here : (ks : List ℕ) × IsRowWalk rows index ks start
    walk_here =
        ⊎_elim (λ same. absurd (omega (arith, same, (following.follow place place_in).1, (following.follow place place_in).2)))
        (λ led. (led.2, led.3)) (following.each index)

    still : (k : ℕ) → get_or new k 0 ≡ get_or now k 0 → KeepsOrFollows n rows start old new k
    still k same =
        ⊎_elim (λ kept. inl (same ∙ kept)) (λ led. inr (led.0, same ∙ led.1, led.2, led.3)) (following.each k)

    new_each : (k : ℕ) → KeepsOrFollows n rows start old new k
    new_each k =
        ⊎_elim
        (λ free. ⊎_elim
        (λ near. inr (was_free k free, marks.fresh k free near, index ∷ walk_here.0, (are.symmetric k index ∙ near, walk_here.1)))
        (λ far. still k (marks.others k far))
        (cases_Bool (near_has rows index k)))
        (λ ne. still k (marks.kept k ne))
        (cases_eq (get_or now k 0) n)

    new_closed : (p j : ℕ) → p < place + 1 → p < length after → near_has rows (get_or after p 0) j ≡ true
        → get_or old j 0 ≡ n → get_or new j 0 ≡ start
    new_closed p j p_low p_in near free =
        ⊎_elim
        (λ same.
        let at : get_or after p 0 ≡ index = ap (λ k. get_or after k 0) same ∙ queues.prefix place place_in in
        let near_here : near_has rows index j ≡ true = subst (λ i. near_has rows i j ≡ true) at near in
        ⊎_elim (λ still_free. marks.fresh j still_free near_here)
        (λ ne. ⊎_elim (λ kept. absurd (ne (kept ∙ free))) (λ led. same_start j led.1) (following.each j))
        (cases_eq (get_or now j 0) n))
        (λ other.
        let low : p < place = omega arith in
        same_start j
        (following.closed p j low (omega arith)
        (subst (λ i. near_has rows i j ≡ true) (queues.prefix p (omega arith)) near) free))
        (cases_eq p place)

    pub follow_more : AreFollowing n rows start (place + 1) old new after
    follow_more = record {
      count = marks.count ∙ following.count;
      itself = same_start start following.itself;
      each = new_each;
      room = omega (arith, queues.room, following.room);
      follow = λ p p_in.
          ⊎_elim
          (λ low.
          let same : get_or after p 0 ≡ get_or before p 0 = queues.prefix p low in
          let was = following.follow p low in
          subst (λ i. (i < n) × (get_or old i 0 ≡ n) × (get_or new i 0 ≡ start)) (sym same)
          (was.0, was.1, same_start (get_or before p 0) was.2))
          (λ high.
          let at = queues.behind p high p_in in
          let free = was_free (get_or after p 0) at.0 in
          (within_old (get_or after p 0) free, free, at.1))
          (cases_lt p (length before));
      found = λ k free led.
          ⊎_elim (λ still_free. queues.found k still_free led)
          (λ ne. let at = following.found k free ne in
          (at.0, omega (arith, at.1, queues.longer), queues.prefix at.0 at.1 ∙ at.2))
          (cases_eq (get_or now k 0) n);
      closed = new_closed;
    }

  -- after the last one, what the start reaches has it
  pub all_follow : (place : ℕ) (leaders queue : List ℕ) → AreFollowing n rows start place old leaders queue
      → length queue ≤ place → LeadsReached n rows start old leaders
  all_follow place leaders queue following done = record {
    count = following.count;
    itself = following.itself;
    each = following.each;
    closed = λ i j free led near free_too.
        let at = following.found i free (λ e. absurd (omega (arith, e, led))) in
        following.closed at.0 j (omega (arith, at.1)) at.1
        (subst (λ k. near_has rows k j ≡ true) (sym at.2) near) free_too;
  }

  -- ---- at the beginning

  module _ (free : get_or old start 0 ≡ n) where
    abbrev first : List ℕ
    first = set old start start

    at_start : get_or first start 0 ≡ start
    at_start = get_or-set_same old start start 0 (omega (arith, count))

    elsewhere : (k : ℕ) → k ≢ start → get_or first k 0 ≡ get_or old k 0
    elsewhere k other = get_or-set_other old start k start 0 other

    pub start_follows : AreFollowing n rows start 0 old first (start ∷ [])
    start_follows = record {
      count = length-set old start start;
      itself = at_start;
      each = λ k.
          ⊎_elim
          (λ same. inr (
            ap (λ i. get_or old i 0) same ∙ free,
            ap (λ i. get_or first i 0) same ∙ at_start,
            [],
            same,
          ))
          (λ other. inl (elsewhere k other)) (cases_eq k start);
      room =
          omega (
            arith,
            one_fewer n start start old (omega (arith, count)) free (λ e. absurd (omega arith)),
            count_by-le-length (λ m. eqb m n) old,
            count,
          );
      follow = λ p p_in.
          let only : p ≡ 0 = omega arith in
          subst (λ q. (get_or (start ∷ []) q 0 < n) × (get_or old (get_or (start ∷ []) q 0) 0 ≡ n)
          × (get_or first (get_or (start ∷ []) q 0) 0 ≡ start)) (sym only) (start_in, free, at_start);
      found = λ k was led.
          ⊎_elim (λ same. (0, omega arith, sym same)) (λ other. absurd (led (elsewhere k other ∙ was))) (cases_eq k start);
      closed = λ p j low. absurd (omega arith);
    }
