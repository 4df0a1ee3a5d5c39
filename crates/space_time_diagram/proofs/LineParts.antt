-- What the line of a completion is made of.
use Rattle.std.proofs.Common.{ℕ, List, length}
use Rattle.std.specs.List.{flat_map}
use Rattle.topology.specs.Graph.{Graph}
use Rattle.reset_model.specs.Configuration.{Configuration}
use Rattle.history.specs.declared.entry.Report.{Report}
use Rattle.space_time_diagram.specs.Completions.{completion_end, completion_tag, members, piece, report_words}
use Rattle.space_time_diagram.specs.Lanes.{lane_of}
use Rattle.space_time_diagram.specs.Page.{right_end, row_y}

-- its tag, its words, its pieces and its session, in this order
pub record LineParts : Type 0 where
  pub tag : List ℕ
  pub words : List ℕ
  pub pieces : List ℕ
  pub last : List ℕ

-- those of the line across the lanes of the nodes of a component
abbrev pub line_parts : {L : Type 0} → Configuration L → List ℕ → Graph → ℕ → ℕ → Report → LineParts
line_parts c nodes g i before r = record {
  tag = completion_tag (row_y r.finished);
  words = report_words before r;
  pieces = flat_map (piece (lane_of nodes c)) (members nodes g i);
  last = completion_end (right_end (length nodes)) r.number;
}
