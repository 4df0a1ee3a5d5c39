-- The least numbers of links of walks, by parity. Each identifier stands twice, for walks of evenly many links and for
-- those of oddly many, and each link leads from the one kind to the other.
use Rattle.std.specs.Prelude.{◌≡◌, ℕ, ◌+◌, ◌%◌, ◌<◌, ◌≤◌, ◌==◌, if◌then◌else◌, true, List, length, slice_index}
use Rattle.std.specs.List.Sorted.{IsStrictlyIncreasing}
use Rattle.topology.specs.Graph.{Graph, AreLinked, IsWalk, has}
use Rattle.topology.specs.Rows.{row_at}

-- the row has the indexes of the neighbours of the identifier at k, ascending, each with the shift added
pub record ShiftsNear (g : Graph) (shift k : ℕ) (row : List ℕ) : Type 0 where
  pub ascending : IsStrictlyIncreasing row
  pub only : (j : ℕ) → has row j ≡ true
      → (i : ℕ) × (i < length g.ids) × (j ≡ shift + i) × AreLinked g (slice_index g.ids k) (slice_index g.ids i)
  pub all : (i : ℕ) → i < length g.ids → AreLinked g (slice_index g.ids k) (slice_index g.ids i)
      → has row (shift + i) ≡ true

-- behind the old rows stand those of the first `count` identifiers
pub record PushesShifted (g : Graph) (shift count : ℕ) (old new : List (List ℕ)) : Type 0 where
  pub total : length new ≡ length old + count
  pub kept : (k : ℕ) → k < length old → row_at new k ≡ row_at old k
  pub pushed : (k : ℕ) → k < count → ShiftsNear g shift k (row_at new (length old + k))

-- from an even place a link leads to an odd one, and from an odd place to an even one
pub record AreDoubled (g : Graph) (rows : List (List ℕ)) : Type 0 where
  pub count : length rows ≡ length g.ids + length g.ids
  pub even : (k : ℕ) → k < length g.ids → ShiftsNear g (length g.ids) k (row_at rows k)
  pub odd : (k : ℕ) → k < length g.ids → ShiftsNear g 0 k (row_at rows (length g.ids + k))

-- the place of index k, of n, for walks of so many links
abbrev pub place_for : ℕ → ℕ → ℕ → ℕ
place_for n k links = if links % 2 == 0 then k else n + k

-- at the place of each index and parity stands the least number of links of a walk to d, and else no number below
-- the number of the places
pub record TellsWalks (g : Graph) (d : ℕ) (marks : List ℕ) : Type 0 where
  pub count : length marks ≡ length g.ids + length g.ids
  pub walk : (k links : ℕ) → k < length g.ids
      → let mark = slice_index marks (place_for (length g.ids) k links) in mark < length g.ids + length g.ids
      → (cs : List ℕ) × IsWalk g (slice_index g.ids k) cs d × (length cs ≡ mark) × (mark % 2 ≡ links % 2)
  pub least : (k : ℕ) (cs : List ℕ) → k < length g.ids → IsWalk g (slice_index g.ids k) cs d
      → let mark = slice_index marks (place_for (length g.ids) k (length cs)) in
      (mark < length g.ids + length g.ids) × (mark ≤ length cs)

-- one table for each of the indexes, of the walks to the identifier there
pub record AreTables (g : Graph) (members : List ℕ) (tables : List (List ℕ)) : Type 0 where
  pub count : length tables ≡ length members
  pub each : (p : ℕ) → p < length members
      → TellsWalks g (slice_index g.ids (slice_index members p)) (row_at tables p)
