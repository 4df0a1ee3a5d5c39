-- The numbers of the nodes, above the first row and above each fortieth.
use Rattle.std.specs.Prelude.{ℕ, ◌+◌, ◌/◌, List, [], ◌∷◌, ◌++◌, codes}
use Rattle.std.specs.Fmt.{decimal}
use Rattle.std.specs.List.{concat, flat_map, range_with_len}
use Rattle.space_time_diagram.specs.Page.{heading_y, lane_x}

-- the identifier of a node at y, on its lane, whose middle is at x
unfoldable pub heading_text : ℕ → ℕ → ℕ → List ℕ
heading_text x y i = concat (codes "<text class='lane' x='" ∷ decimal x ∷ codes "' y='" ∷ decimal y ∷ codes "'>"
    ∷ decimal i ∷ codes "</text>\n" ∷ [])

-- the identifier of a node at y, on its lane
abbrev pub lane_heading : (ℕ → ℕ) → ℕ → ℕ → List ℕ
lane_heading lane y i = heading_text (lane_x (lane i)) y i

-- those of these nodes
abbrev pub lane_headings : (ℕ → ℕ) → List ℕ → ℕ → List ℕ
lane_headings lane nodes y = flat_map (lane_heading lane y) nodes

-- and so many times, from above row 0 on
abbrev pub headings : (ℕ → ℕ) → List ℕ → ℕ → List ℕ
headings lane nodes times = flat_map (λ n. lane_headings lane nodes (heading_y n)) (range_with_len 0 times)

-- what is painted last, over so many rows: the numbers, and the last tag
abbrev pub foot_text : (ℕ → ℕ) → List ℕ → ℕ → List ℕ
foot_text lane nodes count = headings lane nodes (count / 40 + 1) ++ codes "</svg>\n"
