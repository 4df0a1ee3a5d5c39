-- The networks of the standard shapes.
use Rattle.std.specs.Prelude.{ℕ, ◌+◌, ◌-◌, ◌*◌, ◌/◌, ◌%◌, ◌==◌, nat_lt, nat_le, min, max, if◌then◌else◌, List, []}
use Rattle.std.specs.Prelude.{◌∷◌, ◌++◌, map, flat_map, find, unwrap_or}
use Rattle.std.specs.List.{range_with_len}
use Rattle.rand_core.specs.Pcg32Seed.{pcg32_seed}
use Rattle.rand_pcg.specs.Lcg.{advance}
use Rattle.rand_pcg.specs.Pcg.{multiplier_64, pcg32, pcg32_of_seed}
use Rattle.action_tables.specs.Modulus.{max_modulus}
use Rattle.topology.specs.TopologyText.{Description}
use Rattle.topology.specs.declared.text.AppName.{AppName}
use Rattle.network_shapes.specs.declared.shape.Shape.{Shape}
use Rattle.network_shapes.specs.declared.shape.Shape.TheVariants.{Ring, Path, Star, Grid, Tree, Random}

-- the nodes: 1, 2, .. count
abbrev pub node_numbers : ℕ → List ℕ
node_numbers count = range_with_len 1 count

-- the width of a grid's rows: the least number whose square is at least count
abbrev pub grid_width : ℕ → ℕ
grid_width count = unwrap_or (find (λ width. nat_le count (width * width)) (range_with_len 1 count)) 1

-- the word at this index, from 0 on, of those that the PCG32 generator with this seed gives
unfoldable pub word_at : ℕ → ℕ → ℕ
word_at seed index = (pcg32 (advance 64 multiplier_64 index (pcg32_of_seed (pcg32_seed 16 seed)))).0

-- the lesser node that a word draws
abbrev pub drawn_below : ℕ → ℕ → ℕ
drawn_below node word = 1 + word % (node - 1)

-- two nodes in ascending order, or the one that they are
abbrev pub both : ℕ → ℕ → List ℕ
both a b = if a == b then a ∷ [] else min a b ∷ max a b ∷ []

-- the node above and the node before, in a grid with rows of this width
abbrev pub grid_neighbours : ℕ → ℕ → List ℕ
grid_neighbours width node =
    (if nat_lt width node then (node - width) ∷ [] else [])
    ++ (if (node - 1) % width == 0 then [] else (node - 1) ∷ [])

-- the lesser nodes that the two words of a node draw: words 0 and 1 are those of node 2
abbrev pub drawn_nodes : ℕ → ℕ → List ℕ
drawn_nodes seed node =
    both (drawn_below node (word_at seed (2 * (node - 2)))) (drawn_below node (word_at seed (2 * (node - 2) + 1)))

-- the lesser nodes, ascending, that a node from 2 to count is linked with
abbrev pub lesser_nodes : Shape → ℕ → ℕ → ℕ → List ℕ
lesser_nodes Ring count seed node = if node == count then both 1 (node - 1) else (node - 1) ∷ []
lesser_nodes Path count seed node = (node - 1) ∷ []
lesser_nodes Star count seed node = 1 ∷ []
lesser_nodes Grid count seed node = grid_neighbours (grid_width count) node
lesser_nodes Tree count seed node = node / 2 ∷ []
lesser_nodes Random count seed node = drawn_nodes seed node

-- the links of a node with these others, which are named first
abbrev pub links_to : ℕ → List ℕ → List (ℕ × ℕ)
links_to node others = map (λ other. (other, node)) others

-- the links of a shape: for the nodes 2, 3, .. count, each with its lesser nodes
abbrev pub shape_links : Shape → ℕ → ℕ → List (ℕ × ℕ)
shape_links shape count seed =
    flat_map (λ node. links_to node (lesser_nodes shape count seed node)) (range_with_len 2 (count - 1))

-- the network of a shape, with an application, whose sessions are counted modulo the greatest number
abbrev pub shape_description : Shape → ℕ → ℕ → AppName → Description
shape_description shape count seed app =
    record { nodes = node_numbers count; links = shape_links shape count seed; app = app; modulus = max_modulus }
