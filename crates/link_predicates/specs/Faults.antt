-- The faults of a configuration: which row of which table fails at which end of which link.
use Rattle.std.specs.Prelude.{◌≡◌, ℕ, ◌==◌, nat_lt, Bool, true, false, if◌then◌else◌, List, [], ◌∷◌, ◌++◌, Option, Some, None}
use Rattle.std.specs.Prelude.{map, find, codes}
use Rattle.std.specs.List.{flat_map, list_all}
use Rattle.action_tables.specs.Numbers.{is_among}
use Rattle.action_tables.specs.Table.{enabled_of}
use Rattle.app_interface.specs.Application.{App}
use Rattle.topology.specs.Graph.{are_linked, neighbours_of, node_bound}
use Rattle.tree_layer.specs.TreeTable.{tree_table}
use Rattle.tree_layer.specs.TreeTable as tree
use Rattle.wave_layer.specs.WaveTable.{wave_table}
use Rattle.wave_layer.specs.declared.regs.WaveRegs.{WaveRegs}
use Rattle.wave_layer.specs.declared.regs.FatherSeen.TheVariants.{Is}
use Rattle.reset_model.specs.Configuration.{Configuration}
use Rattle.reset_model.specs.declared.event.Event.{Event}
use Rattle.reset_model.specs.declared.event.Event.TheVariants.{Adopt, Claim, Follow, Mend}
use Rattle.reset_machine.specs.Enabled.{enabled_trees}
use Rattle.reset_model.specs.View.{Neighbour, near_of}
use Rattle.link_predicates.specs.declared.fault.Family.{Family}
use Rattle.link_predicates.specs.declared.fault.Family.TheVariants.{Tree, Wave, App as OfApp}
use Rattle.link_predicates.specs.declared.fault.LinkFault.{LinkFault}

-- the first of these rows that is enabled
abbrev pub first_enabled : List ℕ → List ℕ → Option ℕ
first_enabled rows enabled = find (λ n. is_among n enabled) rows

-- the name of a family
abbrev pub family_name : Family → List ℕ
family_name Tree = codes "tree"
family_name Wave = codes "wave"
family_name OfApp = codes "app"

-- ---- what fails at a node, or at its end of the link to another one

-- rows 1 to 4 of the tree table: what the node knows of its root and father is wrong
abbrev pub own_row : {L : Type 0} → Configuration L → ℕ → Option ℕ
own_row c i = first_enabled (1 ∷ 2 ∷ 3 ∷ 4 ∷ []) (enabled_trees c i)

-- what a node sees of the tree, where it sees one neighbour alone
abbrev pub tree_end : {L : Type 0} → ℕ → Neighbour L → Neighbour L → tree.LocalView
tree_end K own other = record { id = own.id; bound = K; own = own.tree; near = (other.id, other.tree) ∷ [] }

-- rows 5 to 8: its father is this neighbour and not as it takes it to be, or the neighbour would be adopted
abbrev pub tree_row : {L : Type 0} → ℕ → Neighbour L → Neighbour L → Option ℕ
tree_row K own other = let v =
    tree_end K own other in first_enabled (5 ∷ 6 ∷ 7 ∷ 8 ∷ []) (enabled_of (tree_table v v.near))

-- of rows 8 to 11 of the wave table the first that is enabled, where the father has these registers and sessions are
-- counted modulo m
abbrev pub mending_row : ℕ → WaveRegs → WaveRegs → Option ℕ
mending_row m own up =
    first_enabled (8 ∷ 9 ∷ 10 ∷ 11 ∷ [])
    (enabled_of (wave_table (record { own = own; father = Is up; children = []; modulus = m }) []))

-- the same at an end, where the neighbour is the father
abbrev pub wave_row : {L : Type 0} → ℕ → Neighbour L → Neighbour L → Option ℕ
wave_row m own other = if own.tree.father == other.id then mending_row m own.wave other.wave else None

-- the row of the application's link table, where both ends have one session
abbrev pub app_row : {L : Type 0} → App L → ℕ → Neighbour L → Neighbour L → Option ℕ
app_row app K own other =
    if own.wave.session == other.wave.session then app.link_fault own.id K own.local other.id other.local else None

-- ---- the lists

-- the fault of a row, if one fails
abbrev pub fault_of : ℕ → ℕ → Family → Option ℕ → List LinkFault
fault_of i j family None = []
fault_of i j family (Some row) = record { at = i; other = j; family = family; row = row } ∷ []

-- at one end of a link: at most one fault a family, the least row that fails
abbrev pub link_faults : {L : Type 0} → App L → ℕ → ℕ → Neighbour L → Neighbour L → List LinkFault
link_faults app K m own other =
    fault_of own.id other.id Tree (tree_row K own other)
    ++ (fault_of own.id other.id Wave (wave_row m own other)
    ++ fault_of own.id other.id OfApp (app_row app K own other))

-- at node i's end of its link to j; none where they aren't linked
abbrev pub end_faults : {L : Type 0} → App L → Configuration L → ℕ → ℕ → List LinkFault
end_faults app c i j =
    if are_linked c.graph i j then link_faults app (node_bound c.graph) c.modulus (near_of app c i) (near_of app c j)
    else []

-- at a node: its own fault, then those of its links, by ascending neighbour
abbrev pub node_faults : {L : Type 0} → App L → Configuration L → ℕ → List LinkFault
node_faults app c i =
    fault_of i i Tree (own_row c i)
    ++ flat_map (link_faults app (node_bound c.graph) c.modulus (near_of app c i))
    (map (near_of app c) (neighbours_of c.graph i))

-- at all nodes, by ascending node
abbrev pub faults : {L : Type 0} → App L → Configuration L → List LinkFault
faults app c = flat_map (node_faults app c) c.graph.nodes

-- ---- what repairs them

-- the event of a row of the tree table: rows 1 to 4 are claims, 5 and 6 follows, 7 and 8 adoptions
abbrev pub tree_repair : LinkFault → Event
tree_repair fault =
    if nat_lt fault.row 5 then Claim fault.at
    else if nat_lt fault.row 7 then Follow fault.at else Adopt fault.at fault.other

-- the event that repairs a fault of the tree or of the wave
abbrev pub repair_of : LinkFault → Option Event
repair_of fault = by_family fault.family
  where
    by_family : Family → Option Event
    by_family Tree = Some (tree_repair fault)
    by_family Wave = Some (Mend fault.at)
    by_family OfApp = None

-- ---- the application's

abbrev pub is_of_app : LinkFault → Bool
is_of_app fault = is_app fault.family
  where
    is_app : Family → Bool
    is_app Tree = false
    is_app Wave = false
    is_app OfApp = true

-- all of these are faults of the application: none is of the tree or of the wave
abbrev pub AreOfApp : List LinkFault → Type 0
AreOfApp told = list_all is_of_app told ≡ true

-- the alarm: the first fault of the application at a node
abbrev pub alarm_of : {L : Type 0} → App L → Configuration L → ℕ → Option LinkFault
alarm_of app c i = find is_of_app (node_faults app c i)
