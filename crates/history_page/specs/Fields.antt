-- The fields of a line that tell what a node has.
use Rattle.std.specs.Prelude.{ℕ, if◌then◌else◌, List, [], ◌∷◌, ◌++◌, codes}
use Rattle.std.specs.Fmt.{decimal}
use Rattle.std.specs.List.{concat, flat_map}
use Rattle.app_interface.specs.Application.{App}
use Rattle.topology.specs.Graph.{is_node}
use Rattle.tree_layer.specs.declared.regs.TreeRegs.{TreeRegs}
use Rattle.wave_layer.specs.declared.regs.Phase.{Phase}
use Rattle.wave_layer.specs.declared.regs.Phase.TheVariants.{Normal, Initiate, Reset}
use Rattle.wave_layer.specs.declared.regs.WaveRegs.{WaveRegs}
use Rattle.reset_model.specs.Configuration.{Configuration, local_of, tree_of, wave_of}
use Rattle.history_page.specs.declared.field.Field.{Field}
use Rattle.history_page.specs.declared.field.Field.TheVariants.{Tree, Wave, Local}

-- the letter of a phase
abbrev pub phase_letter : Phase → List ℕ
phase_letter Normal = codes "n"
phase_letter Initiate = codes "i"
phase_letter Reset = codes "r"

-- root, father and distance
unfoldable pub tree_text : TreeRegs → List ℕ
tree_text regs =
    concat (codes ";t" ∷ decimal regs.root ∷ codes " " ∷ decimal regs.father ∷ codes " " ∷ decimal regs.dist ∷ [])

-- phase and session
unfoldable pub wave_text : WaveRegs → List ℕ
wave_text regs = concat (codes ";" ∷ phase_letter regs.phase ∷ decimal regs.session ∷ [])

-- a field of a node that has these registers and this local state
abbrev pub field_text : {L : Type 0} → (L → List ℕ) → TreeRegs → WaveRegs → L → Field → List ℕ
field_text text tree wave local Tree = tree_text tree
field_text text tree wave local Wave = wave_text wave
field_text text tree wave local Local = codes ";=" ++ text local

-- fields of node i as it is in a configuration; what is down has none
abbrev pub fields_text : {L : Type 0} → App L → (L → List ℕ) → Configuration L → ℕ → List Field → List ℕ
fields_text app text c i fields =
    if is_node c.graph i then flat_map (field_text text (tree_of c i) (wave_of c i) (local_of app c i)) fields else []
