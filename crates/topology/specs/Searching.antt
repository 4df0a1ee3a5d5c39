-- What a breadth-first search leaves: at each index its distance to the start, or n where no walk leads there.
use Rattle.std.specs.Prelude.{◌≡◌, ◌≢◌, ℕ, ◌+◌, ◌<◌, ◌≤◌, true, false, ◌⊎◌, List, [], ◌∷◌, length, count_by, slice_index, ◌==◌}
use Rattle.topology.specs.Graph.{has}
use Rattle.topology.specs.Rows.{near_has}

-- how many indexes have no mark yet
abbrev pub unmarked : ℕ → List ℕ → ℕ
unmarked n marks = count_by (λ m. m == n) marks

-- the indexes of the row that had no mark have this one
pub record MarksRow (n : ℕ) (row : List ℕ) (mark : ℕ) (old new : List ℕ) : Type 0 where
  pub count : length new ≡ length old
  pub kept : (k : ℕ) → slice_index old k ≢ n → slice_index new k ≡ slice_index old k
  pub fresh : (k : ℕ) → slice_index old k ≡ n → has row k ≡ true → slice_index new k ≡ mark
  pub others : (k : ℕ) → has row k ≡ false → slice_index new k ≡ slice_index old k

-- behind the indexes that were reached before stand those that got this mark, and no more
pub record QueuesMarked (n mark : ℕ) (old new before after : List ℕ) : Type 0 where
  pub longer : length before ≤ length after
  pub prefix : (p : ℕ) → p < length before → slice_index after p ≡ slice_index before p
  pub behind : (p : ℕ) → length before ≤ p → p < length after →
      (slice_index old (slice_index after p) ≡ n) × (slice_index new (slice_index after p) ≡ mark)
  pub found : (k : ℕ) → slice_index old k ≡ n → slice_index new k ≢ n
      → (p : ℕ) × (p < length after) × (slice_index after p ≡ k)
  pub room : length after + unmarked n new ≤ length before + unmarked n old

-- each mark below n is 0 at the start, or one more than that of a neighbour
pub record AreReached (n : ℕ) (rows : List (List ℕ)) (start : ℕ) (marks : List ℕ) : Type 0 where
  pub count : length marks ≡ n
  pub within : start < n
  pub at_start : slice_index marks start ≡ 0
  pub small : (i : ℕ) → i < n → slice_index marks i ≤ n
  pub reached : (i : ℕ) → i < n → slice_index marks i < n → ((slice_index marks i ≡ 0) × (i ≡ start))
      ⊎ ((j : ℕ) × (j < n) × (near_has rows i j ≡ true) × (slice_index marks j + 1 ≡ slice_index marks i))

-- the reached indexes are those with marks, in the order of their marks, and the neighbours of those
-- before the place have marks
pub record AreQueued (n : ℕ) (rows : List (List ℕ)) (start place : ℕ) (marks reached : List ℕ) : Type 0 where
  pub are_reached : AreReached n rows start marks
  pub room : length reached + unmarked n marks ≤ n
  pub below : (p : ℕ) → p < length reached
      → (slice_index reached p < n) × (slice_index marks (slice_index reached p) ≤ p)
  pub found : (i : ℕ) → i < n → slice_index marks i < n → (p : ℕ) × (p < length reached) × (slice_index reached p ≡ i)
  pub rising : (p q : ℕ) → p ≤ q → q < length reached
      → slice_index marks (slice_index reached p) ≤ slice_index marks (slice_index reached q)
  pub near : (p : ℕ) → p < length reached → place < length reached →
      slice_index marks (slice_index reached p) ≤ slice_index marks (slice_index reached place) + 1
  pub closed : (p j : ℕ) → p < place → p < length reached → near_has rows (slice_index reached p) j ≡ true →
      (slice_index marks j < n) × (slice_index marks j ≤ slice_index marks (slice_index reached p) + 1)

-- the neighbours of what has a mark below n have marks that are at most one more
pub record AreDistances (n : ℕ) (rows : List (List ℕ)) (start : ℕ) (marks : List ℕ) : Type 0 where
  pub are_reached : AreReached n rows start marks
  pub closed : (i j : ℕ) → i < n → near_has rows i j ≡ true → slice_index marks i < n →
      (slice_index marks j < n) × (slice_index marks j ≤ slice_index marks i + 1)

-- from i through the indexes of the list to j, each in the row of the one before
abbrev pub IsRowWalk : List (List ℕ) → ℕ → List ℕ → ℕ → Type 0
IsRowWalk rows i [] j = i ≡ j
IsRowWalk rows i (k ∷ ks) j = (near_has rows i k ≡ true) × IsRowWalk rows k ks j

-- k keeps its leader; or it had none, which n tells, and follows the start now, to which a walk over rows leads
abbrev pub KeepsOrFollows : ℕ → List (List ℕ) → ℕ → List ℕ → List ℕ → ℕ → Type 0
KeepsOrFollows n rows start old new k =
    (slice_index new k ≡ slice_index old k)
    ⊎ ((slice_index old k ≡ n) × (slice_index new k ≡ start) × (ks : List ℕ) × IsRowWalk rows k ks start)

-- the start leads itself; each index keeps its leader or follows the start from now on; and where one does, so do
-- its neighbours that had no leader
pub record LeadsReached (n : ℕ) (rows : List (List ℕ)) (start : ℕ) (old new : List ℕ) : Type 0 where
  pub count : length new ≡ length old
  pub itself : slice_index new start ≡ start
  pub each : (k : ℕ) → KeepsOrFollows n rows start old new k
  pub closed : (i j : ℕ) → slice_index old i ≡ n → slice_index new i ≡ start → near_has rows i j ≡ true
      → slice_index old j ≡ n → slice_index new j ≡ start
