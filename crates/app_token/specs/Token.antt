-- What the two cases of the token do, and the start states.
use Rattle.std.specs.Prelude.{ℕ, ◌==◌, ◌&&◌, if◌then◌else◌, Bool, true, false, not, List, [], ◌∷◌, Option, Some, None}
use Rattle.std.specs.Prelude.{Result, Ok, codes}
use Rattle.std.specs.Option.{option_map_or}
use Rattle.std.specs.Result.{result_ok}
use Rattle.action_tables.specs.Table.{Row, fired_of}
use Rattle.app_interface.specs.Application.{App}
use Rattle.app_interface.specs.Views.{seen_at, toward}
use Rattle.app_interface.specs.declared.reads.Reads.{Reads}
use Rattle.app_interface.specs.declared.reads.Reads.TheVariants.{Toward, One}
use Rattle.app_interface.specs.declared.refusal.ClockRefusal.{ClockRefusal}
use Rattle.app_interface.specs.declared.refusal.ClockRefusal.TheVariants.{NotEnabled}
use Rattle.topology.specs.Components.{leader}
use Rattle.topology.specs.Graph.{Graph, is_node}
use Rattle.app_token.specs.Bits.{toggled}
use Rattle.app_token.specs.TokenLinks.{is_in_flight, token_link_fault}
use Rattle.app_token.specs.declared.local.TokenLocal.{TokenLocal}

-- whether the token is on its way from j to node i
abbrev pub arrives : ℕ → ℕ → TokenLocal → List (ℕ × TokenLocal) → Bool
arrives i j own seen = option_map_or (λ theirs. is_in_flight j i theirs own) (seen_at j seen) false

-- the rows of a node toward its neighbour j
abbrev pub token_table : ℕ → TokenLocal → Bool → List (Row (Result TokenLocal ClockRefusal))
token_table j own arriving =
    record {
      number = 1;
      name = codes "pass";
      guard = codes "hold";
      effect = codes "hold := no; given[j] := not given[j]";
      holds = own.hold;
      does = Ok (record { hold = false; given = toggled own.given j; taken = own.taken });
    }
    ∷ record {
      number = 2;
      name = codes "take";
      guard = codes "not hold, given.j[id] != taken[j]";
      effect = codes "hold := yes; taken[j] := not taken[j]";
      holds = not own.hold && arriving;
      does = Ok (record { hold = true; given = own.given; taken = toggled own.taken j });
    }
    ∷ []

-- what a case leaves, toward a neighbour that is named by an identifier
abbrev pub token_next : ℕ → ℕ → Option ℕ → TokenLocal → List (ℕ × TokenLocal) → Option TokenLocal
token_next i case with own seen =
    toward with (λ j. result_ok (fired_of NotEnabled NotEnabled (token_table j own (arrives i j own seen)) case))

abbrev pub token_reads : ℕ → Option Reads
token_reads case = if 1 == case then Some Toward else (if 2 == case then Some One else None)

abbrev pub token_names : ℕ → Option (List ℕ)
token_names case = if 1 == case then Some (codes "pass") else (if 2 == case then Some (codes "take") else None)

-- a component's leader holds its token, and nothing is on its way; what is down holds nothing
abbrev pub token_start : Graph → ℕ → TokenLocal
token_start g i = record { hold = is_node g i && (i == leader g i); given = []; taken = [] }

abbrev pub token : App TokenLocal
token = record {
  count = 2;
  reads = token_reads;
  start = token_start;
  next = λ i bound case with own seen. token_next i case with own seen;
  link_fault = λ i bound own j theirs. token_link_fault i j own theirs;
}
