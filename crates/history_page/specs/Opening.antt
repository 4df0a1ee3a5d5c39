-- The lines that stand before those of the entries.
use Rattle.std.specs.Prelude.{ℕ, nat_lt, if◌then◌else◌, List, [], ◌∷◌, ◌++◌, codes}
use Rattle.std.specs.Fmt.{decimal}
use Rattle.std.specs.List.{concat, flat_map}
use Rattle.app_interface.specs.Application.{App}
use Rattle.topology.specs.Graph.{Graph, is_node, neighbours_of}
use Rattle.reset_model.specs.Configuration.{Configuration}
use Rattle.history_page.specs.declared.field.Field.TheVariants as field
use Rattle.history_page.specs.Failing.{failing_first}
use Rattle.history_page.specs.Fields.{fields_text}
use Rattle.history_page.specs.Lines.{line_text}

-- ---- the first lines

-- a number after a space
abbrev pub spaced : ℕ → List ℕ
spaced n = codes " " ++ decimal n

-- all identifiers, each after a space
abbrev pub nodes_line : Graph → List ℕ
nodes_line g = codes "nodes" ++ flat_map spaced g.ids

-- a link at its lesser end, and nothing at its greater one
abbrev pub link_from : ℕ → ℕ → List ℕ
link_from i j = if nat_lt i j then concat (codes " " ∷ decimal i ∷ codes "-" ∷ decimal j ∷ []) else []

-- the links of a node with greater ones
abbrev pub links_from : Graph → ℕ → List ℕ
links_from g i = flat_map (link_from i) (neighbours_of g i)

-- all links, each after a space
abbrev pub links_line : Graph → List ℕ
links_line g = codes "links" ++ flat_map (links_from g) g.ids

-- the title, the application's name, the modulus, the identifiers and the links
abbrev pub first_lines : {L : Type 0} → List ℕ → List ℕ → Configuration L → List (List ℕ)
first_lines title name c = codes "reset-page 1" ∷ (codes "title " ++ title) ∷ (codes "app " ++ name)
    ∷ (codes "modulus " ++ decimal c.modulus) ∷ nodes_line c.graph ∷ links_line c.graph ∷ []

-- ---- the opening

-- whether a node is down
abbrev pub down_text : Graph → ℕ → List ℕ
down_text g i = if is_node g i then [] else codes ";down"

-- an identifier in the opening: its registers and what fails there, or that it is down
abbrev pub boot_data : {L : Type 0} → App L → (L → List ℕ) → Configuration L → ℕ → List ℕ
boot_data app text c i = (codes "boot " ++ decimal i)
    ++ (fields_text app text c i (field.Tree ∷ field.Wave ∷ field.Local ∷ [])
    ++ (down_text c.graph i ++ failing_first app c i))

-- the line of an identifier
abbrev pub boot_line : {L : Type 0} → App L → (L → List ℕ) → Configuration L → ℕ → List ℕ
boot_line app text c i = line_text (boot_data app text c i)
