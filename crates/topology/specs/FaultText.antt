-- How a fault is written: its name, and each of its numbers after a space.
use Rattle.std.specs.Prelude.{ℕ, List, ◌++◌, codes, decimal}
use Rattle.topology.specs.declared.fault.TopoFault.{TopoFault}
use Rattle.topology.specs.declared.fault.TopoFault.TheVariants.{NoNodes, TooManyNodes, BadId, TwiceNode, TooManyLinks}
use Rattle.topology.specs.declared.fault.TopoFault.TheVariants.{StrangeNode, SelfLink, TwiceLink}
use Rattle.topology.specs.declared.fault.TopoFault.TheVariants.{NoMemory, NoSuchLink, LinkIsThere, NodeIsUp}

-- the text of a fault
abbrev pub fault_text : TopoFault → List ℕ
fault_text NoNodes = codes "NoNodes"
fault_text TooManyNodes = codes "TooManyNodes"
fault_text (BadId n) = codes "BadId " ++ decimal n
fault_text (TwiceNode n) = codes "TwiceNode " ++ decimal n
fault_text TooManyLinks = codes "TooManyLinks"
fault_text (StrangeNode n) = codes "StrangeNode " ++ decimal n
fault_text (SelfLink n) = codes "SelfLink " ++ decimal n
fault_text (TwiceLink a b) = codes "TwiceLink " ++ decimal a ++ codes " " ++ decimal b
fault_text NoMemory = codes "NoMemory"
fault_text NoSuchLink = codes "NoSuchLink"
fault_text LinkIsThere = codes "LinkIsThere"
fault_text NodeIsUp = codes "NodeIsUp"
