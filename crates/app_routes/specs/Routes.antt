-- What the one case of the routes does, and the start states.
use Rattle.std.specs.Prelude.{ℕ, ◌==◌, if◌then◌else◌, List, [], ◌∷◌, Option, Some, None, Result, Ok, unwrap_or, codes}
use Rattle.std.specs.Result.{result_ok}
use Rattle.action_tables.specs.Table.{Row, fired_of}
use Rattle.app_interface.specs.Application.{App}
use Rattle.app_interface.specs.Views.{seen_at, toward}
use Rattle.app_interface.specs.declared.reads.Reads.{Reads}
use Rattle.app_interface.specs.declared.reads.Reads.TheVariants.{One}
use Rattle.app_interface.specs.declared.refusal.ClockRefusal.{ClockRefusal}
use Rattle.app_interface.specs.declared.refusal.ClockRefusal.TheVariants.{NotEnabled}
use Rattle.topology.specs.Graph.{Graph}
use Rattle.app_routes.specs.Entries.{pulled, some_better}
use Rattle.app_routes.specs.RoutesLinks.{routes_link_fault}
use Rattle.app_routes.specs.declared.entry.Entry.{Entry}

-- the entries of j, none where j isn't seen
abbrev pub entries_of : ℕ → List (ℕ × List Entry) → List Entry
entries_of j seen = unwrap_or (seen_at j seen) []

-- the row of a node toward its neighbour j, whose entries are `theirs`
abbrev pub routes_table : ℕ → ℕ → List Entry → List Entry → List (Row (Result (List Entry) ClockRefusal))
routes_table K j own theirs =
    record {
      number = 1;
      name = codes "pull";
      guard = codes "some entry of j is better";
      effect = codes "each better entry (d, h, n) of j sets own entry (d, h + 1, j)";
      holds = some_better K own theirs;
      does = Ok (pulled K j own theirs);
    }
    ∷ []

-- what a case leaves, toward a neighbour that is named by an identifier
abbrev pub routes_next : ℕ → ℕ → Option ℕ → List Entry → List (ℕ × List Entry) → Option (List Entry)
routes_next K case with own seen =
    toward with (λ j. result_ok (fired_of NotEnabled NotEnabled (routes_table K j own (entries_of j seen)) case))

abbrev pub routes_reads : ℕ → Option Reads
routes_reads case = if 1 == case then Some One else None

abbrev pub routes_names : ℕ → Option (List ℕ)
routes_names case = if 1 == case then Some (codes "pull") else None

-- the way to itself
abbrev pub routes_start : Graph → ℕ → List Entry
routes_start g i = record { destination = i; hops = 0; next = i } ∷ []

abbrev pub routes : App (List Entry)
routes = record {
  count = 1;
  reads = routes_reads;
  start = routes_start;
  next = λ i K case with own seen. routes_next K case with own seen;
  link_fault = λ i K own j theirs. routes_link_fault j own theirs;
}
