-- The names of the phases.
use Rattle.std.specs.Prelude.{ℕ, List, codes}
use Rattle.wave_layer.specs.declared.regs.Phase.{Phase}
use Rattle.wave_layer.specs.declared.regs.Phase.TheVariants.{Normal, Initiate, Reset}

abbrev pub phase_name : Phase → List ℕ
phase_name Normal = codes "normal"
phase_name Initiate = codes "initiate"
phase_name Reset = codes "reset"
