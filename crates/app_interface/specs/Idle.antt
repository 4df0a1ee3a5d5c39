-- The application without cases.
use Rattle.std.specs.Prelude.{ℕ, if◌then◌else◌, List, Option, None, Some, codes}
use Rattle.std.specs.Str.{bytes_eq}
use Rattle.app_interface.specs.Application.{App}

abbrev pub idle : App (Unit {0})
idle = record {
  count = 0;
  reads = λ case. None;
  start = λ g i. tt;
  next = λ i bound case with own seen. None;
  link_fault = λ i bound own j theirs. None;
}

-- the one local state, by a dash
abbrev pub idle_from_text : List ℕ → Option (Unit {0})
idle_from_text text = if bytes_eq (codes "-") text then Some tt else None
