-- The fields before the index were added.
use Rattle.std.proofs.Common.{◌≡◌, ◌++◌, take}
use Rattle.std.specs.List.{flat_map}
use Rattle.history_page.specs.Fields.{field_text}
use Rattle.history_page.proofs.field.add_each.Given as goal

abbrev pub invariant-loop-field : goal.invariant-loop-field
invariant-loop-field g l =
    l.line.items
    ≡ l.initial.line.items
    ++ flat_map (field_text g.P.Application.text l.tree l.wave l.local) (take l.field-index l.fields)
