-- The TOML tables of descriptions whose modulus is the greatest, which name none, and how they are written.
use Rattle.std.specs.Prelude.{ℕ, ◌<◌, ◌^◌, pos, List, [], ◌∷◌, ◌++◌, map, codes, decimal}
use Rattle.std.specs.List.{join_by}
use Rattle.toml.specs.Data.{Data, string, integer, array, Members, member, no_members}
use Rattle.toml.specs.View.{items_of}
use Rattle.topology.specs.TopologyText.{Description}
use Rattle.topology.specs.declared.text.AppName.{AppName}
use Rattle.topology.specs.declared.text.AppName.TheVariants.{Idle, Token, Mutex, Routes}

-- numbers of 32 bits
abbrev pub IsSmall : ℕ → Type 0
IsSmall n = n < 2 ^ 32

abbrev pub IsSmallLink : ℕ × ℕ → Type 0
IsSmallLink l = IsSmall l.0 × IsSmall l.1

-- an array of values of one kind
abbrev pub array_data : {X : Type 0} → (X → Data) → List X → Data
array_data data_of xs = array (items_of (map data_of xs))

-- a number
abbrev pub number_data : ℕ → Data
number_data n = integer (pos n)

-- a link, as the array of its two ends
abbrev pub link_data : ℕ × ℕ → Data
link_data l = array_data number_data (l.0 ∷ l.1 ∷ [])

-- the name of an application
abbrev pub app_word : AppName → List ℕ
app_word Idle = codes "idle"
app_word Token = codes "token"
app_word Mutex = codes "mutex"
app_word Routes = codes "routes"

-- the table of a description, in the order of its keys
abbrev pub description_members : Description → Members
description_members d =
    member (codes "app") (string (app_word d.app))
    (member (codes "links") (array_data link_data d.links)
    (member (codes "nodes") (array_data number_data d.nodes) no_members))

-- an array as it is written, a comma and a space between each two
abbrev pub array_text : {X : Type 0} → (X → List ℕ) → List X → List ℕ
array_text text_of xs = codes "[" ++ (join_by text_of (codes ", ") xs ++ codes "]")

-- a link, as the array of its two ends
abbrev pub link_text : ℕ × ℕ → List ℕ
link_text l = array_text decimal (l.0 ∷ l.1 ∷ [])

-- a line with a key and its value
abbrev pub line_text : List ℕ → List ℕ → List ℕ
line_text key value = key ++ (codes " = " ++ (value ++ codes "\n"))

-- the line of each key
abbrev pub nodes_line : List ℕ → List ℕ
nodes_line ns = line_text (codes "nodes") (array_text decimal ns)

abbrev pub links_line : List (ℕ × ℕ) → List ℕ
links_line ls = line_text (codes "links") (array_text link_text ls)

abbrev pub app_line : AppName → List ℕ
app_line app = line_text (codes "app") (codes "\"" ++ (app_word app ++ codes "\""))

-- the text of a description as it is printed: a line for each key, in the order of the keys
unfoldable pub description_text : Description → List ℕ
description_text d = app_line d.app ++ (links_line d.links ++ nodes_line d.nodes)

-- and in the order of the documentation
unfoldable pub documented_text : Description → List ℕ
documented_text d = nodes_line d.nodes ++ (links_line d.links ++ app_line d.app)
