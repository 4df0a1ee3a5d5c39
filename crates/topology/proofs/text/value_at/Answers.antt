use Rattle.std.proofs.Common.{◌≡◌, Option, Some, None, option_map, ok_or, Bor, refl}
use Rattle.std.specs.Result.{result_map_both}
use Rattle.toml.specs.View.{view}
use Rattle.toml.specs.declared.value.Value.{Value}
use Rattle.toml.proofs.Views.{table_get}
use Rattle.topology.specs.TopologyText.{value_at}
use Rattle.topology.specs.declared.text.ReadFault.{ReadFault}
use Rattle.topology.proofs.text.value_at.Goals as goal

seen-ok_or : (r : Option (Bor Value)) (f : ReadFault)
    → result_map_both (λ v. view v.now) (λ e. e) (ok_or r f) ≡ ok_or (option_map (λ v. view v.now) r) f
seen-ok_or None f = refl
seen-ok_or (Some v) f = refl

pub returns : goal.returns
unfolding value_at
returns c =
    let found = table_get c.get.result c.args.key.now c.args.table.now.entries c.get.ensures.value in
    rw (← found, c.ok_or.ensures.value) (seen-ok_or c.get.result _)
