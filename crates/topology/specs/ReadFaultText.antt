-- How a fault of a text is written: its name, or the fault of the lists.
use Rattle.std.specs.Prelude.{ℕ, List, codes}
use Rattle.topology.specs.FaultText.{fault_text}
use Rattle.topology.specs.declared.text.ReadFault.{ReadFault}
use Rattle.topology.specs.declared.text.ReadFault.TheVariants.{TextTooLong, NotToml, MissingKey, UnknownKey, WrongKind}
use Rattle.topology.specs.declared.text.ReadFault.TheVariants.{UnknownApp, Topology, NoMemory}

-- the text of a fault
abbrev pub read_fault_text : ReadFault → List ℕ
read_fault_text TextTooLong = codes "TextTooLong"
read_fault_text NotToml = codes "NotToml"
read_fault_text MissingKey = codes "MissingKey"
read_fault_text UnknownKey = codes "UnknownKey"
read_fault_text WrongKind = codes "WrongKind"
read_fault_text UnknownApp = codes "UnknownApp"
read_fault_text (Topology f) = fault_text f
read_fault_text NoMemory = codes "NoMemory"
