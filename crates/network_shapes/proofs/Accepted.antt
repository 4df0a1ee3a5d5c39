-- The text of a shape has no fault.
use Rattle.std.proofs.Common.{◌≡◌, ℕ, ◌<◌, ◌≤◌, List, Result, Ok, Err, IfOk, String, Global, string_bytes, subst}
use Rattle.std.specs.declared.alloc.AllocError.{AllocError}
use Rattle.topology.specs.TopologyText.{Description, IsReadFault, description_of}
use Rattle.topology.specs.Faults.{HasFault}
use Rattle.topology.specs.declared.fault.TopoFault.{TopoFault}
use Rattle.topology.specs.declared.text.AppName.{AppName}
use Rattle.topology.specs.declared.text.ReadFault.{ReadFault}
use Rattle.topology.specs.declared.text.ReadFault.TheVariants.{TextTooLong, NotToml, MissingKey, UnknownKey, WrongKind}
use Rattle.topology.specs.declared.text.ReadFault.TheVariants.{UnknownApp, Topology, NoMemory}
use Rattle.network_shapes.specs.Shapes.{shape_description}
use Rattle.network_shapes.specs.declared.shape.Shape.{Shape}
use Rattle.network_shapes.proofs.Networks.{shape_topology}

module _ (text : List ℕ) (d : Description) (described : description_of text ≡ Ok d) where
  -- a text with a description has the faults of its lists alone
  no_fault : ((f : TopoFault) → HasFault d.nodes d.links f → ⊥) → (f : ReadFault) → IsReadFault text f → ⊥
  no_fault sound (Topology f) is =
      let same : is.0 ≡ d = cc in
      sound f (subst (λ e. HasFault e.nodes e.links f) same is.2.fault)
  no_fault sound TextTooLong is = cc
  no_fault sound NotToml is = cc
  no_fault sound MissingKey is = cc
  no_fault sound UnknownKey is = cc
  no_fault sound WrongKind is = cc
  no_fault sound UnknownApp is = cc
  no_fault sound NoMemory is = cc

pub accepted : (shape : Shape) (count seed : ℕ) (app : AppName) → 0 < count → count ≤ 1024
    → (r : Result (String Global) AllocError)
    → IfOk r (λ s. description_of (string_bytes s) ≡ Ok (shape_description shape count seed app))
    → IfOk r (λ s. (f : ReadFault) → IsReadFault (string_bytes s) f → ⊥)
accepted shape count seed app some few (Err e) is = tt
accepted shape count seed app some few (Ok s) is =
    no_fault (string_bytes s) (shape_description shape count seed app) is
    (shape_topology shape count seed some few).1.sound
