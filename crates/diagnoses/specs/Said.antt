-- What is said of a file.
use Rattle.std.specs.Prelude.{ℕ, List, [], ◌∷◌, codes}
use Rattle.std.specs.Fmt.{decimal}
use Rattle.std.specs.List.{concat}

-- how the line begins that says something of the file of this name
abbrev pub head_text : List ℕ → List ℕ
head_text name = concat (codes "reset-service: " ∷ name ∷ codes ": " ∷ [])

-- the line
abbrev pub said_text : List ℕ → List ℕ → List ℕ
said_text name reason = concat (head_text name ∷ reason ∷ codes "\n" ∷ [])

-- the number of a line that is bad
abbrev pub line_number_text : ℕ → List ℕ
line_number_text n = concat (codes "line " ∷ decimal n ∷ codes ": " ∷ [])

-- what is wrong with a node, whose number stands between two texts
abbrev pub of_node : List ℕ → ℕ → List ℕ → List ℕ
of_node before id after = concat (before ∷ decimal id ∷ after ∷ [])

-- what is wrong with the link of two nodes
abbrev pub of_link : ℕ → ℕ → List ℕ → List ℕ
of_link a b wrong = concat (codes "the link of " ∷ decimal a ∷ codes " and " ∷ decimal b ∷ wrong ∷ [])
