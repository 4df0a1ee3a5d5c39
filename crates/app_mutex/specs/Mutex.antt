-- What the two cases of neighbour exclusion do, and the start states.
use Rattle.std.specs.Prelude.{ℕ, ◌==◌, ◌&&◌, if◌then◌else◌, Bool, true, false, not, List, [], ◌∷◌, Option, Some, None}
use Rattle.std.specs.Prelude.{Result, Ok, codes}
use Rattle.std.specs.List.{list_all}
use Rattle.std.specs.Result.{result_ok}
use Rattle.action_tables.specs.Table.{Row, fired_of}
use Rattle.app_interface.specs.Application.{App}
use Rattle.app_interface.specs.declared.reads.Reads.{Reads}
use Rattle.app_interface.specs.declared.reads.Reads.TheVariants.{Alone, All}
use Rattle.app_interface.specs.declared.refusal.ClockRefusal.{ClockRefusal}
use Rattle.app_interface.specs.declared.refusal.ClockRefusal.TheVariants.{NotEnabled}
use Rattle.topology.specs.Graph.{Graph}
use Rattle.app_mutex.specs.MutexLinks.{mutex_link_fault}
use Rattle.app_mutex.specs.Turns.{holds_turn}
use Rattle.app_mutex.specs.declared.local.MutexLocal.{MutexLocal}

-- whether node i, whose bit is b, holds the turns of its links to all neighbours that are seen
abbrev pub holds_turns : ℕ → Bool → List (ℕ × MutexLocal) → Bool
holds_turns i b seen = list_all (λ near. holds_turn i b near.0 near.1.bit) seen

-- the rows of a node, by whether it holds the turn of each of its links
abbrev pub mutex_table : MutexLocal → Bool → List (Row (Result MutexLocal ClockRefusal))
mutex_table own held =
    record {
      number = 1;
      name = codes "enter";
      guard = codes "not in, every link's turn is held";
      effect = codes "in := yes";
      holds = not own.inside && held;
      does = Ok (record { inside = true; bit = own.bit });
    }
    ∷ record {
      number = 2;
      name = codes "leave";
      guard = codes "in";
      effect = codes "in := no; bit := not bit";
      holds = own.inside;
      does = Ok (record { inside = false; bit = not own.bit });
    }
    ∷ []

-- what a case leaves, where no neighbour is named
abbrev pub mutex_next : ℕ → ℕ → Option ℕ → MutexLocal → List (ℕ × MutexLocal) → Option MutexLocal
mutex_next i case None own seen =
    result_ok (fired_of NotEnabled NotEnabled (mutex_table own (holds_turns i own.bit seen)) case)
mutex_next i case (Some j) own seen = None

abbrev pub mutex_reads : ℕ → Option Reads
mutex_reads case = if 1 == case then Some All else (if 2 == case then Some Alone else None)

abbrev pub mutex_names : ℕ → Option (List ℕ)
mutex_names case = if 1 == case then Some (codes "enter") else (if 2 == case then Some (codes "leave") else None)

-- no node is in, and every bit is 0
abbrev pub mutex_start : Graph → ℕ → MutexLocal
mutex_start g i = record { inside = false; bit = false }

abbrev pub mutex : App MutexLocal
mutex = record {
  count = 2;
  reads = mutex_reads;
  start = mutex_start;
  next = λ i bound case with own seen. mutex_next i case with own seen;
  link_fault = λ i bound own j theirs. mutex_link_fault i j own theirs;
}
