-- What the clauses of private functions cite.
use Rattle.std.specs.Prelude.{◌≡◌, ℕ, ◌<◌, length, slice_index}
use Rattle.topology.specs.Graph.{Graph, AreLinked}

-- the nodes i and j are linked, and these are their places
pub record AreEnds (g : Graph) (i j index near : ℕ) : Type 0 where
  pub within : index < length g.ids
  pub near_within : near < length g.ids
  pub own : slice_index g.ids index ≡ i
  pub other : slice_index g.ids near ≡ j
  pub linked : AreLinked g i j
