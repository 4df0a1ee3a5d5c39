-- The fields of a line that tell what fails.
use Rattle.std.specs.Prelude.{ℕ, if◌then◌else◌, List, [], ◌∷◌, map, codes}
use Rattle.std.specs.Fmt.{decimal}
use Rattle.std.specs.List.{concat, flat_map}
use Rattle.std.specs.Str.{bytes_eq}
use Rattle.app_interface.specs.Application.{App}
use Rattle.topology.specs.Graph.{is_node}
use Rattle.reset_model.specs.Configuration.{Configuration}
use Rattle.link_predicates.specs.Faults.{node_faults}
use Rattle.link_predicates.specs.declared.fault.Family.{Family}
use Rattle.link_predicates.specs.declared.fault.Family.TheVariants.{Tree, Wave, App as OfApp}
use Rattle.link_predicates.specs.declared.fault.LinkFault.{LinkFault}

-- the letter of a family
abbrev pub family_letter : Family → List ℕ
family_letter Tree = codes "t"
family_letter Wave = codes "w"
family_letter OfApp = codes "a"

-- a row that fails: at which other node, of which family, and its number
unfoldable pub row_text : LinkFault → List ℕ
row_text fault = concat (codes " " ∷ decimal fault.other ∷ family_letter fault.family ∷ decimal fault.row ∷ [])

-- what fails at node i, and nothing where it is down. It stays folded: unfolded, it has all the tables
unfoldable pub failing : {L : Type 0} → App L → Configuration L → ℕ → List LinkFault
failing app c i = if is_node c.graph i then node_faults app c i else []

-- the rows that fail
abbrev pub rows_text : List LinkFault → List ℕ
rows_text faults = flat_map row_text faults

-- the field of node i, if it isn't the same rows that fail there as before
unfoldable pub failing_other : ℕ → List ℕ → List ℕ → List ℕ
failing_other i before rows =
    if bytes_eq before rows then [] else concat (codes ";!" ∷ decimal i ∷ rows ∷ [])

-- that of a node in the opening: something fails there
abbrev pub failing_first : {L : Type 0} → App L → Configuration L → ℕ → List ℕ
failing_first app c i = failing_other i [] (rows_text (failing app c i))

-- that of a node of which it was noted what failed there: something else fails now
abbrev pub failing_change : {L : Type 0} → App L → Configuration L → ℕ × List ℕ → List ℕ
failing_change app c node = failing_other node.0 node.1 (rows_text (failing app c node.0))

-- these nodes, each with the rows that fail there
abbrev pub noted : {L : Type 0} → App L → Configuration L → List ℕ → List (ℕ × List ℕ)
noted app c ids = map (λ i. (i, rows_text (failing app c i))) ids

-- what the nodes that an entry concerns tell of what fails there, where that isn't what it was
abbrev pub changes_text : {L : Type 0} → App L → Configuration L → List (ℕ × List ℕ) → List ℕ
changes_text app after before = flat_map (failing_change app after) before
