-- Of each component whether the application's invariant holds there, of the newest states.
use Rattle.std.specs.Prelude.{◌==◌, ℕ, if◌then◌else◌, List, filter, map, Option, Some, None}
use Rattle.app_interface.specs.Application.{App}
use Rattle.topology.specs.Components.{component, leader}
use Rattle.topology.specs.Graph.{Graph, is_node}
use Rattle.reset_model.specs.Configuration.{Configuration}
use Rattle.reset_model.specs.Refinement.{abstract_of}

-- the newest states: what the nodes that have joined keep, and the start states of all others
abbrev pub newest_of : {L : Type 0} → App L → Configuration L → ℕ → L
newest_of app c i = if is_node c.graph i then abstract_of app c i else app.start c.graph i

-- the leaders of the components, ascending
abbrev pub leaders_of : Graph → List ℕ
leaders_of g = filter (λ i. leader g i == i) g.nodes

-- what is counted, the number where the invariant holds, and the number that a graph with these states has
pub record Count (L : Type 0) : Type 0 where
  pub words : List ℕ
  pub right : ℕ
  pub number : Graph → (ℕ → L) → ℕ

-- nothing where the number is right, and else what was counted, and the number
abbrev pub wrong_of : {L : Type 0} → Count L → Graph → (ℕ → L) → Option (List ℕ × ℕ)
wrong_of count g v = if count.number g v == count.right then None else Some (count.words, count.number g v)

-- a component by its leader, and what is wrong there
abbrev pub verdict_of : {L : Type 0} → Count L → App L → Configuration L → ℕ → ℕ × Option (List ℕ × ℕ)
verdict_of count app c i = (i, wrong_of count (component c.graph i) (newest_of app c))

-- of each component, by ascending leader
abbrev pub verdicts_of : {L : Type 0} → Count L → App L → Configuration L → List (ℕ × Option (List ℕ × ℕ))
verdicts_of count app c = map (verdict_of count app c) (leaders_of c.graph)
