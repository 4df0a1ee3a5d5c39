-- What is written of a topology of a standard shape.
use Rattle.std.specs.Prelude.{ℕ, if◌then◌else◌, List, Option, Some, None, codes, Result, Ok, Err}
use Rattle.std.specs.Str.{bytes_eq}
use Rattle.topology.specs.TopologyText.{app_named}
use Rattle.topology.specs.declared.text.AppName.{AppName}
use Rattle.topology.specs.declared.text.AppName.TheVariants.{Idle}
use Rattle.topology.specs.declared.text.ReadFault.{ReadFault}
use Rattle.network_shapes.specs.Shapes.{shape_description}
use Rattle.topology.specs.TopologyTable.{description_text}
use Rattle.network_shapes.specs.declared.shape.Shape.{Shape}
use Rattle.network_shapes.specs.declared.shape.Shape.TheVariants.{Ring, Path, Star, Grid, Tree, Random}
use Rattle.history.specs.HistoryText.{ended}
use Rattle.script_replay.specs.Output.{bad_topology_text}
use Rattle.script_replay.specs.declared.status.Status.{Status}
use Rattle.script_replay.specs.declared.status.Status.TheVariants.{Good, BadInput}

-- the shape of this name
unfoldable pub shape_named : List ℕ → Option Shape
shape_named name =
    if bytes_eq name (codes "ring") then Some Ring
    else if bytes_eq name (codes "path") then Some Path
    else if bytes_eq name (codes "star") then Some Star
    else if bytes_eq name (codes "grid") then Some Grid
    else if bytes_eq name (codes "tree") then Some Tree
    else if bytes_eq name (codes "random") then Some Random else None

-- the application of a name, and the one that idles where none is given
abbrev pub app_or_idle : Option (List ℕ) → Result AppName ReadFault
app_or_idle None = Ok Idle
app_or_idle (Some name) = app_named name

-- the text of a shape with this application, so many nodes and this seed, or the first fault of the two names
abbrev pub shaped : Option Shape → Result AppName ReadFault → ℕ → ℕ → List ℕ × Status
shaped None app nodes seed = (ended (codes "bad topology UnknownShape"), BadInput)
shaped (Some shape) (Err fault) nodes seed = (bad_topology_text fault, BadInput)
shaped (Some shape) (Ok app) nodes seed = (description_text (shape_description shape nodes seed app), Good)
