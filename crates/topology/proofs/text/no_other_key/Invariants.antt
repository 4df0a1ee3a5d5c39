use Rattle.std.proofs.Common.{◌≡◌, string_bytes}
use Rattle.std.specs.List.{list_all}
use Rattle.toml.specs.View.{table_view}
use Rattle.topology.specs.TopologyText.{is_known, keys_of}
use Rattle.topology.proofs.text.no_other_key.Given as goal

abbrev pub invariant-loop-key : goal.invariant-loop-key
invariant-loop-key l =
    (goal.iterator-loop-key).can_next l.key-iterator ×
    (goal.iterator-loop-key).is_finite l.key-iterator ×
    (list_all is_known (keys_of (table_view l.table)) ≡ list_all (λ k. is_known (string_bytes k)) l.key-iterator)
