-- A breadth-first search keeps its marks and the order in which it reaches.
use Rattle.std.proofs.Common.{◌≡◌, ◌≢◌, ℕ, ◌+◌, ◌<◌, ◌≤◌, true, cond, ◌⊎◌, eqb, List, [], ◌∷◌, ◌++◌, length, get_or}
use Rattle.std.proofs.Common.{set, replicate, sym, refl, ap, subst, ◌∙◌, arith, inl, inr, ⊎_elim, eq-eqb, ne_eqb}
use Rattle.std.proofs.lemmas.Bool.{cases_eq, cases_lt, cases_Bool}
use Rattle.std.proofs.lemmas.List.{length-set, length-replicate, get_or-set_same, get_or-set_other, get_or-replicate}
use Rattle.std.proofs.lemmas.List.{get_or_past, get_or_append_left, get_or_push, length_push}
use Rattle.std.proofs.lemmas.Grind.{common_steps}
use Rattle.std.proofs.lemmas.List.Sums.{sum_by-set, count_by-le-length}
use Rattle.topology.specs.Rows.{row_at, near_has, AreRows}
use Rattle.topology.specs.Searching.{unmarked, MarksRow, QueuesMarked, AreReached, AreQueued}

-- a mark at an index that had none
pub one_fewer : (n k mark : ℕ) (marks : List ℕ) → k < length marks → get_or marks k 0 ≡ n → mark ≢ n
    → unmarked n (set marks k mark) + 1 ≡ unmarked n marks
one_fewer n k mark marks within free other =
    let f : ℕ → ℕ = λ m. cond (eqb m n) 1 0 in
    let here : f (get_or marks k 0) ≡ 1 = ap (λ b. cond b 1 0) (eq-eqb (get_or marks k 0) n free) in
    let there : f mark ≡ 0 = ap (λ b. cond b 1 0) (ne_eqb mark n other) in
    omega (arith, sum_by-set f marks k mark 0 within, here, there)

-- where an index has no mark there is one
some_unmarked : (n k : ℕ) (marks : List ℕ) → k < length marks → get_or marks k 0 ≡ n → 1 ≤ unmarked n marks
some_unmarked n k marks within free =
    omega (arith, one_fewer n k (n + 1) marks within free (λ same. absurd (omega arith)))

-- ---- one index of a row after another

module _ (n mark : ℕ) (old before : List ℕ) (differs : 0 < unmarked n old → mark ≢ n) (now reached : List ℕ)
    (count : length now ≡ length old) (kept : (k : ℕ) → get_or old k 0 ≢ n → get_or now k 0 ≡ get_or old k 0)
    (queued : QueuesMarked n mark old now before reached) (i : ℕ) (i_in : i < length now) (free : get_or now i 0 ≡ n)
  where
    was_free : get_or old i 0 ≡ n
    was_free = ⊎_elim (λ e. e) (λ ne. sym (kept i ne) ∙ free) (cases_eq (get_or old i 0) n)

    mark_differs : mark ≢ n
    mark_differs = differs (omega (arith, some_unmarked n i old (omega (arith, count)) was_free))

    -- an index that gets the mark comes behind the others
    pub queue_more : QueuesMarked n mark old (set now i mark) before (reached ++ i ∷ [])
    queue_more = record {
      longer = omega (arith, length_push reached i, queued.longer);
      prefix = λ p p_in. get_or_append_left reached (i ∷ []) 0 p (omega (arith, queued.longer)) ∙ queued.prefix p p_in;
      behind = grind (arith, common_steps, was_free, queued.behind);
      found = λ k was marked.
          ⊎_elim
          (λ same. (
            length reached,
            omega (arith, length_push reached i),
            get_or_push reached i 0 (length reached) refl
                ∙ sym same,
          ))
          (λ other.
          let at = queued.found k was (λ e. marked (get_or-set_other now i k mark 0 other ∙ e)) in
          (at.0, omega (arith, at.1, length_push reached i), get_or_append_left reached (i ∷ []) 0 at.0 at.1 ∙ at.2))
          (cases_eq k i);
      room = omega (arith, length_push reached i, queued.room, one_fewer n i mark now i_in free mark_differs);
    }

-- ---- one reached index after another

module _ (n : ℕ) (rows : List (List ℕ)) (are : AreRows n rows) (start place : ℕ) (old before : List ℕ)
    (queued : AreQueued n rows start place old before) (place_in : place < length before) (new after : List ℕ)
    (marks : MarksRow n (row_at rows (get_or before place 0)) (get_or old (get_or before place 0) 0 + 1) old new)
    (queues : QueuesMarked n (get_or old (get_or before place 0) 0 + 1) old new before after) where
  abbrev index : ℕ
  index = get_or before place 0

  abbrev mark : ℕ
  mark = get_or old (get_or before place 0) 0 + 1

  -- the next mark is free where some index has none
  mark_low : (k : ℕ) → k < n → get_or old k 0 ≡ n → mark < n
  mark_low k k_in free =
      omega (
        arith,
        some_unmarked n k old (omega (arith, queued.are_reached.count)) free,
        queued.room,
        (queued.below place place_in).1,
      )

  same_mark : (k : ℕ) → get_or old k 0 < n → get_or new k 0 ≡ get_or old k 0
  same_mark k less = marks.kept k (λ e. absurd (omega arith))

  -- what the new mark of an index is
  record Cases (k : ℕ) : Type 0 where
    pub split : ((get_or old k 0 < n) × (get_or new k 0 ≡ get_or old k 0))
        ⊎ ((get_or old k 0 ≡ n)
        × ((get_or new k 0 ≡ n) ⊎ ((get_or new k 0 ≡ mark) × (mark < n) × (near_has rows index k ≡ true))))

  cases : (k : ℕ) → k < n → Cases k
  cases k k_in = record {
    split = ⊎_elim
        (λ free. inr (
          free,
          ⊎_elim (λ near. inr (marks.fresh k free near, mark_low k k_in free, near))
              (λ far. inl (marks.others k far ∙ free)) (cases_Bool (near_has rows index k)),
        ))
        (λ ne. inl (omega (arith, queued.are_reached.small k k_in), marks.kept k ne))
        (cases_eq (get_or old k 0) n);
  }

  new_reached : AreReached n rows start new
  new_reached = record {
    count = marks.count ∙ queued.are_reached.count;
    within = queued.are_reached.within;
    at_start =
        same_mark start (omega (arith, queued.are_reached.within, queued.are_reached.at_start))
        ∙ queued.are_reached.at_start;
    small = λ k k_in.
        ⊎_elim (λ was. omega (arith, was.0, was.1))
        (λ other. ⊎_elim (λ e. omega (arith, e)) (λ m. omega (arith, m.0, m.1)) other.1) (cases k k_in).split;
    reached = λ k k_in less.
        ⊎_elim
        (λ was. ⊎_elim
        (λ zero. inl (was.1 ∙ zero.0, zero.1))
        (λ m. inr (m.0, m.1, m.2, ap (λ x. x + 1) (same_mark m.0 (omega (arith, was.0, m.3))) ∙ m.3 ∙ sym was.1))
        (queued.are_reached.reached k k_in was.0))
        (λ other. ⊎_elim
        (λ free. absurd (omega (arith, free)))
        (λ m. inr (
          index,
          (queued.below place place_in).0,
          are.symmetric k index
              ∙ m.2,
          ap (λ x. x + 1) (same_mark index (omega (arith, m.1))) ∙ sym m.0,
        ))
        other.1)
        (cases k k_in).split;
  }

  -- what stands at a place
  record Places (p : ℕ) : Type 0 where
    pub split :
        ((p < length before) × (get_or after p 0 ≡ get_or before p 0)
        × (get_or new (get_or after p 0) 0 ≡ get_or old (get_or before p 0) 0))
        ⊎ ((length before ≤ p) × (get_or after p 0 < n) × (get_or new (get_or after p 0) 0 ≡ mark))

  places : (p : ℕ) → p < length after → Places p
  places p p_in = record {
    split = ⊎_elim
        (λ low.
        let same : get_or after p 0 ≡ get_or before p 0 = queues.prefix p low in
        let was = queued.below p low in
        inl (
          low,
          same,
          ap (λ i. get_or new i 0) same
              ∙ same_mark (get_or before p 0) (omega (arith, was.1, queued.room)),
        ))
        (λ high.
        let at = queues.behind p high p_in in
        let within : get_or after p 0 < n =
        ⊎_elim (λ inside. omega (arith, queued.are_reached.count))
        (λ past. absurd (omega (arith, get_or_past old (get_or after p 0) 0 past, at.0, queued.are_reached.within)))
        (cases_lt (get_or after p 0) (length old)) in
        inr (high, within, at.1))
        (cases_lt p (length before));
  }

  new_rising : (p q : ℕ) → p ≤ q → q < length after → get_or new (get_or after p 0) 0 ≤ get_or new (get_or after q 0) 0
  new_rising p q le q_in =
      ⊎_elim
      (λ q_old. ⊎_elim
      (λ p_old. omega (arith, q_old.2, p_old.2, queued.rising p q le q_old.0))
      (λ p_new. absurd (omega (arith, p_new.0, q_old.0)))
      (places p (omega arith)).split)
      (λ q_new. ⊎_elim
      (λ p_old. omega (arith, q_new.2, p_old.2, queued.near p p_old.0 place_in))
      (λ p_new. omega (arith, q_new.2, p_new.2))
      (places p (omega arith)).split)
      (places q q_in).split

  -- no mark is above the next one
  at_most : (p : ℕ) → p < length after → get_or new (get_or after p 0) 0 ≤ mark
  at_most p p_in =
      ⊎_elim (λ was. omega (arith, was.2, queued.near p was.0 place_in)) (λ m. omega (arith, m.2)) (places p p_in).split

  here : get_or new (get_or after place 0) 0 ≡ get_or old index 0
  here = ⊎_elim (λ was. was.2) (λ m. absurd (omega (arith, m.0))) (places place (omega (arith, queues.longer))).split

  closed_here : (j : ℕ) → near_has rows index j ≡ true → (get_or new j 0 < n) × (get_or new j 0 ≤ mark)
  closed_here j near =
      let j_in : j < n = are.within index j near in
      ⊎_elim
      (λ free. let e = marks.fresh j free near in (omega (arith, mark_low j j_in free, e), omega (arith, e)))
      (λ ne.
      let less : get_or old j 0 < n = omega (arith, queued.are_reached.small j j_in) in
      let at = queued.found j j_in less in
      let low = queued.near at.0 at.1 place_in in
      let same = same_mark j less in
      (omega arith, omega (arith, ap (λ i. get_or old i 0) at.2, low, same)))
      (cases_eq (get_or old j 0) n)

  new_closed : (p j : ℕ) → p < place + 1 → p < length after → near_has rows (get_or after p 0) j ≡ true
      → (get_or new j 0 < n) × (get_or new j 0 ≤ get_or new (get_or after p 0) 0 + 1)
  new_closed p j p_low p_in near =
      ⊎_elim
      (λ same.
      let at : get_or after p 0 ≡ index = ap (λ k. get_or after k 0) same ∙ queues.prefix place place_in in
      let c = closed_here j (subst (λ i. near_has rows i j ≡ true) at near) in
      (c.0, omega (arith, c.1, here, ap (λ k. get_or new (get_or after k 0) 0) same)))
      (λ other. ⊎_elim
      (λ was.
      let c = queued.closed p j (omega arith) was.0 (subst (λ i. near_has rows i j ≡ true) was.1 near) in
      let same = same_mark j c.0 in
      (omega (arith, c.0, same), omega (arith, c.1, same, was.2)))
      (λ m. absurd (omega (arith, m.0)))
      (places p p_in).split)
      (cases_eq p place)

  -- the row of the index at the place is done
  pub next_place : AreQueued n rows start (place + 1) new after
  next_place = record {
    are_reached = new_reached;
    room = omega (arith, queues.room, queued.room);
    below = λ p p_in.
        ⊎_elim
        (λ was. let b = queued.below p was.0 in (omega (arith, b.0, was.1), omega (arith, b.1, was.2)))
        (λ m. (m.1, omega (arith, m.0, m.2, (queued.below place place_in).1)))
        (places p p_in).split;
    found = λ k k_in less.
        ⊎_elim
        (λ was. let at = queued.found k k_in was.0
        in (at.0, omega (arith, at.1, queues.longer), queues.prefix at.0 at.1 ∙ at.2))
        (λ other. queues.found k other.0 (λ e. absurd (omega arith)))
        (cases k k_in).split;
    rising = new_rising;
    near = λ p p_in next_in. omega (arith, at_most p p_in, new_rising place (place + 1) (omega arith) next_in, here);
    closed = new_closed;
  }

-- ---- at the beginning

module _ (n : ℕ) (rows : List (List ℕ)) (start : ℕ) (within : start < n) (marks : List ℕ)
    (written : marks ≡ set (replicate n n) start 0) where
  at_start : get_or marks start 0 ≡ 0
  at_start =
      ap (λ xs. get_or xs start 0) written
      ∙ get_or-set_same (replicate n n) start 0 0 (subst (λ m. start < m) (sym (length-replicate n n)) within)

  elsewhere : (k : ℕ) → k < n → k ≢ start → get_or marks k 0 ≡ n
  elsewhere k k_in other =
      ap (λ xs. get_or xs k 0) written ∙ get_or-set_other (replicate n n) start k 0 0 other
      ∙ get_or-replicate n k n 0 k_in

  only_start : (k : ℕ) → k < n → get_or marks k 0 < n → (get_or marks k 0 ≡ 0) × (k ≡ start)
  only_start k k_in less =
      ⊎_elim
      (λ same. (omega (arith, at_start, ap (λ x. get_or marks x 0) same), same))
      (λ other.
      absurd (omega (arith, elsewhere k k_in other)))
      (cases_eq k start)

  one_marked : unmarked n marks + 1 ≤ n
  one_marked =
      let first =
      one_fewer n start 0 (replicate n n) (subst (λ m. start < m) (sym (length-replicate n n)) within)
      (get_or-replicate n start n 0 within) (λ e. absurd (omega arith)) in
      omega (
        arith,
        first,
        ap (unmarked n) written,
        count_by-le-length (λ m. eqb m n) (replicate n n),
        length-replicate
            n n,
      )

  alone : (p : ℕ) → p < length (start ∷ []) → get_or marks (get_or (start ∷ []) p 0) 0 ≡ 0
  alone p p_in =
      let first : p ≡ 0 = omega arith in
      ap (λ k. get_or marks (get_or (start ∷ []) k 0) 0) first ∙ at_start

  pub begun : AreQueued n rows start 0 marks (start ∷ [])
  begun = record {
    are_reached = record {
      count = ap length written ∙ length-set (replicate n n) start 0 ∙ length-replicate n n;
      within = within;
      at_start = at_start;
      small = λ k k_in.
          ⊎_elim
          (λ same. omega (arith, at_start, ap (λ x. get_or marks x 0) same))
          (λ other. omega (arith, elsewhere k k_in other))
          (cases_eq k start);
      reached = λ k k_in less. inl (only_start k k_in less);
    };
    room = omega (arith, one_marked);
    below = λ p p_in.
        let first : p ≡ 0 = omega arith in
        (subst (λ k. get_or (start ∷ []) k 0 < n) (sym first) within, omega (arith, alone p p_in));
    found = λ k k_in less. (0, omega arith, sym (only_start k k_in less).1);
    rising = λ p q le q_in. omega (arith, alone p (omega arith), alone q q_in);
    near = λ p p_in next_in. omega (arith, alone p p_in);
    closed = λ p j low. absurd (omega arith);
  }
