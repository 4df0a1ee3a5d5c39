-- What a topology text describes.
use Rattle.std.proofs.Common.{◌≡◌, ℕ, List}
use Rattle.topology.specs.Graph.{Graph}
use Rattle.topology.specs.declared.text.AppName.{AppName}
use Rattle.script_replay.specs.Output.{Describes}

-- all identifiers of its graph are up
pub all_up : (topology : List ℕ) (g : Graph) (app : AppName) (modulus : ℕ) → Describes topology g app modulus
    → g.nodes ≡ g.ids
all_up topology g app modulus (d, described, is, named, counted) = is.exact.up
