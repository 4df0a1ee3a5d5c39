-- The lines of moves, of a node and of all.
use Rattle.std.proofs.Common.{◌≡◌, ℕ, true, List, sym, ap, ◌∙◌}
use Rattle.std.specs.List.{flat_map}
use Rattle.topology.specs.Graph.{is_node}
use Rattle.reset_model.specs.Configuration.{Configuration}
use Rattle.reset_model.specs.declared.event.Event.{Event}
use Rattle.applications.specs.Meaning.{Meaning}
use Rattle.scheduler.specs.Driven.{enabled_events}
use Rattle.script_replay.specs.Output.{at_node, move_line, moves_lines, moves_text}
use Rattle.script_replay.proofs.FlatMaps.{flat_map_twice}
use Rattle.script_replay.proofs.Nodes.{node_of, told_node}

module _ {L : Type 0} (m : Meaning L) (c : Configuration L) where
  lines-is : (i : ℕ) (moves : List Event) → moves ≡ enabled_events m.app c i → moves_lines m c i ≡ moves_text moves
  unfolding moves_lines
  lines-is i moves is = ap moves_text (sym is)

  -- the moves of a node are told at it
  pub moves_node : (i : ℕ) (moves : List Event) → is_node c.graph i ≡ true → moves ≡ enabled_events m.app c i
      → at_node c i (moves_lines m c i) ≡ moves_text moves
  moves_node i moves there is = told_node c i (moves_lines m c i) (node_of c i there) ∙ lines-is i moves is

  lines_of_all : (ids : List ℕ)
      → flat_map (moves_lines m c) ids ≡ moves_text (flat_map (enabled_events m.app c) ids)
  unfolding moves_lines
  lines_of_all ids = sym (flat_map_twice move_line (enabled_events m.app c) ids)

  -- and those of all nodes, gathered
  pub moves_all : (moves : List Event) → moves ≡ flat_map (enabled_events m.app c) c.graph.nodes
      → flat_map (moves_lines m c) c.graph.nodes ≡ moves_text moves
  moves_all moves is = lines_of_all c.graph.nodes ∙ ap moves_text (sym is)
